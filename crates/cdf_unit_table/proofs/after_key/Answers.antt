-- Each arm by its row; from any other state it is not admitted, by a test over the rows.
use Rattle.std.proofs.Common.{ap, [], ◌∷◌}
use Rattle.cdf_unit_table.specs.Ids.{member, template_key}
use Rattle.cdf_unit_table.specs.States.{some_state, admit, template_new, template_keys, entity_new, entity_keys}
use Rattle.cdf_unit_table.proofs.Rows.{no_state}
use Rattle.cdf_unit_table.proofs.after_key.Goals as goal

pub returns-in-14 : goal.returns-in-14
unfolding admit
returns-in-14 c = rw c.in-14.is

pub returns-in-16 : goal.returns-in-16
unfolding admit
returns-in-16 c = rw c.in-16.is

pub returns-in-27 : goal.returns-in-27
unfolding admit
returns-in-27 c = rw c.in-27.is

pub returns-in-29 : goal.returns-in-29
unfolding admit
returns-in-29 c = rw c.in-29.is

pub returns-in_default : goal.returns-in_default
unfolding member
returns-in_default c =
    ap some_state (no_state ((entity_keys ∷ []) ∷ (entity_new ∷ []) ∷ (template_keys ∷ []) ∷ (template_new ∷ []) ∷ []) template_key tt _
    c.in_default.in_default-own.rest)
