-- By the test of the range.

use Rattle.cdf_unit_table.proofs.within.Goals as goal

pub returns-then-from-state : goal.returns-then-from-state
returns-then-from-state c = rw c.if-from-state.true

pub returns-else-from-state : goal.returns-else-from-state
returns-else-from-state c = rw c.if-from-state.false
