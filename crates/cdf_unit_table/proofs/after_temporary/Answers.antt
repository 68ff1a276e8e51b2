-- Each arm by its row; from any other state it is not admitted, by a test over the rows.
use Rattle.std.proofs.Common.{ap, [], ◌∷◌}
use Rattle.cdf_unit_table.specs.Ids.{member, temporary_key}
use Rattle.cdf_unit_table.specs.States.{some_state, admit, template_new, entity_new}
use Rattle.cdf_unit_table.proofs.Rows.{no_state}
use Rattle.cdf_unit_table.proofs.after_temporary.Goals as goal

pub returns-in-14 : goal.returns-in-14
unfolding admit
returns-in-14 c = rw c.in-14.is

pub returns-in-27 : goal.returns-in-27
unfolding admit
returns-in-27 c = rw c.in-27.is

pub returns-in_default : goal.returns-in_default
unfolding member
returns-in_default c = ap some_state (no_state ((entity_new ∷ []) ∷ (template_new ∷ []) ∷ []) temporary_key tt _ c.in_default.in_default-own.rest)
