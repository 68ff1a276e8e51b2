-- By the law of the ranges, with the tests on the way.
use Rattle.cdf_unit_nesting.proofs.Nesting.{nests_by, nests_is}
use Rattle.cdf_reader_open.proofs.nests.Goals as goal

pub returns-then-outer : goal.returns-then-outer
unfolding nests_by
returns-then-outer c = rw c.if-outer.true at (nests_is c.args.outer c.args.inner)

pub returns-then-outer-2 : goal.returns-then-outer-2
unfolding nests_by
returns-then-outer-2 c =
    let start = c.args in
    rw (c.if-outer.false, c.if-outer-2.true) at (nests_is start.outer start.inner)

pub returns-then-outer-3 : goal.returns-then-outer-3
unfolding nests_by
returns-then-outer-3 c =
    let start = c.args in
    rw (c.if-outer.false, c.if-outer-2.false, c.if-outer-3.true) at (nests_is start.outer start.inner)

pub returns : goal.returns
unfolding nests_by
returns c =
    let start = c.args in
    rw (c.if-outer.false, c.if-outer-2.false, c.if-outer-3.false) at (nests_is start.outer start.inner)
