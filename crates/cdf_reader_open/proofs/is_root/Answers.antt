-- By the law of its range.
use Rattle.cdf_unit_nesting.proofs.Nesting.{root_is}
use Rattle.cdf_reader_open.proofs.is_root.Goals as goal

pub returns : goal.returns
returns c = root_is c.args.state
