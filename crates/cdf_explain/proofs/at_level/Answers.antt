-- By the count.
use Rattle.std.proofs.Common.{eq-eqb, ne_eqb, lt-ltb, le-ltb}
use Rattle.cdf_explain.proofs.at_level.Goals as goal

pub returns-then-count-k : goal.returns-then-count-k
returns-then-count-k c = rw (eq-eqb _ _ c.if-count-k.true)

pub returns-then-k-count : goal.returns-then-k-count
returns-then-k-count c = rw (ne_eqb _ _ c.if-count-k.false, lt-ltb _ _ c.if-k-count.true)

pub returns : goal.returns
returns c = rw (ne_eqb _ _ c.if-count-k.false, le-ltb _ _ c.if-k-count.false) c.no_open.ensures
