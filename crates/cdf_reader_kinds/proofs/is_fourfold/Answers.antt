-- By the law of the ranges.
use Rattle.cdf_reader_kinds.proofs.Ranges.{fourfold_is}
use Rattle.cdf_reader_kinds.proofs.is_fourfold.Goals as goal

pub returns : goal.returns
returns c = fourfold_is c.args.a c.args.b c.args.c c.args.d
