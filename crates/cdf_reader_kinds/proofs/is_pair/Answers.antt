-- By the law of the ranges, with the test on the way.
use Rattle.cdf_reader_kinds.proofs.Ranges.{pair_is}
use Rattle.cdf_reader_kinds.proofs.is_pair.Goals as goal

pub returns-then-a : goal.returns-then-a
returns-then-a c = rw c.if-a.true at (pair_is c.args.a c.args.b)

pub returns : goal.returns
returns c = rw c.if-a.false at (pair_is c.args.a c.args.b)
