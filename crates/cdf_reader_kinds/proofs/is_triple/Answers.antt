-- By the law of the ranges, with the test on the way.
use Rattle.cdf_reader_kinds.proofs.Ranges.{triple_is}
use Rattle.cdf_reader_kinds.proofs.is_triple.Goals as goal

pub returns-then-b : goal.returns-then-b
returns-then-b c = rw c.if-b.true at (triple_is c.args.a c.args.b c.args.c)

pub returns : goal.returns
returns c = rw c.if-b.false at (triple_is c.args.a c.args.b c.args.c)
