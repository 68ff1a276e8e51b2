-- Each arm by its rows; from any other state neither is admitted, by a test over the rows.
use Rattle.std.proofs.Common.{ap, [], ◌∷◌}
use Rattle.cdf_unit_table.specs.Ids.{member, entity_key, relation_key}
use Rattle.cdf_unit_table.specs.States.{some_state, admit, relation_new, relation_source, ordered_new, ordered_source}
use Rattle.cdf_unit_table.proofs.Rows.{no_state}
use Rattle.cdf_unit_table.proofs.after_end.Goals as goal

pub returns-in-19 : goal.returns-in-19
unfolding admit
returns-in-19 c = (rw c.in-19.is, rw c.in-19.is)

pub returns-in-20 : goal.returns-in-20
unfolding admit
returns-in-20 c = (rw c.in-20.is, rw c.in-20.is)

pub returns-in-23 : goal.returns-in-23
unfolding admit
returns-in-23 c = (rw c.in-23.is, rw c.in-23.is)

pub returns-in-24 : goal.returns-in-24
unfolding admit
returns-in-24 c = (rw c.in-24.is, rw c.in-24.is)

pub returns-in_default : goal.returns-in_default
unfolding member
returns-in_default c =
    let known = (ordered_source ∷ []) ∷ (ordered_new ∷ []) ∷ (relation_source ∷ []) ∷ (relation_new ∷ []) ∷ [] in (
      ap some_state (no_state known entity_key tt _ c.in_default.in_default-own.rest),
      ap some_state (no_state known relation_key tt _ c.in_default.in_default-own.rest),
    )
