-- Each arm by its parent; any other id admits no others, by a test over the parents.
use Rattle.std.proofs.Common.{ap, [], ◌∷◌}
use Rattle.cdf_unit_table.specs.Ids.{member}
use Rattle.cdf_unit_table.specs.States.{some_state, nothing}
use Rattle.cdf_unit_table.proofs.Rows.{no_parent}
use Rattle.cdf_unit_table.proofs.first_state.Goals as goal

pub returns-in-1 : goal.returns-in-1
unfolding nothing
returns-in-1 c = rw c.in-1.is

pub returns-in-2 : goal.returns-in-2
unfolding nothing
returns-in-2 c = rw c.in-2.is

pub returns-in-4 : goal.returns-in-4
unfolding nothing
returns-in-4 c = rw c.in-4.is

pub returns-in-5 : goal.returns-in-5
unfolding nothing
returns-in-5 c = rw c.in-5.is

pub returns-in-9 : goal.returns-in-9
unfolding nothing
returns-in-9 c = rw c.in-9.is

pub returns-in-10 : goal.returns-in-10
unfolding nothing
returns-in-10 c = rw c.in-10.is

pub returns-in-11 : goal.returns-in-11
unfolding nothing
returns-in-11 c = rw c.in-11.is

pub returns-in-13 : goal.returns-in-13
unfolding nothing
returns-in-13 c = rw c.in-13.is

pub returns-in_default : goal.returns-in_default
unfolding member
returns-in_default c =
    ap some_state (no_parent ((13 ∷ []) ∷ (11 ∷ []) ∷ (10 ∷ []) ∷ (9 ∷ []) ∷ (5 ∷ []) ∷ (4 ∷ []) ∷ (2 ∷ []) ∷ (1 ∷ []) ∷ []) tt _
    c.in_default.in_default-own.rest)
