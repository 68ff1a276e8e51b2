-- Each arm by the state in which its unit was skipped; in the last one there is no unit.
use Rattle.std.proofs.Common.{sym, [], ◌∷◌}
use Rattle.cdf_unit_table.specs.Ids.{member}
use Rattle.cdf_unit_table.specs.States.{unit_of, skipped, stream_skipped, er_skipped, file_skipped, call_skipped, template_skipped}
use Rattle.cdf_unit_table.specs.States.{relation_skipped, ordered_skipped, entity_skipped}
use Rattle.cdf_unit_states.proofs.BySkipped.{by_skipped, of_none}
use Rattle.cdf_unit_states.proofs.unit_of.Goals as goal

pub returns-in-4 : goal.returns-in-4
unfolding unit_of
returns-in-4 c = rw (by_skipped _ _ c.skipped_state.ensures, c.in-4.is)

pub returns-in-7 : goal.returns-in-7
unfolding unit_of
returns-in-7 c = rw (by_skipped _ _ c.skipped_state.ensures, c.in-7.is)

pub returns-in-10 : goal.returns-in-10
unfolding unit_of
returns-in-10 c = rw (by_skipped _ _ c.skipped_state.ensures, c.in-10.is)

pub returns-in-13 : goal.returns-in-13
unfolding unit_of
returns-in-13 c = rw (by_skipped _ _ c.skipped_state.ensures, c.in-13.is)

pub returns-in-18 : goal.returns-in-18
unfolding unit_of
returns-in-18 c = rw (by_skipped _ _ c.skipped_state.ensures, c.in-18.is)

pub returns-in-22 : goal.returns-in-22
unfolding unit_of
returns-in-22 c = rw (by_skipped _ _ c.skipped_state.ensures, c.in-22.is)

pub returns-in-26 : goal.returns-in-26
unfolding unit_of
returns-in-26 c = rw (by_skipped _ _ c.skipped_state.ensures, c.in-26.is)

pub returns-in-30 : goal.returns-in-30
unfolding unit_of
returns-in-30 c = rw (by_skipped _ _ c.skipped_state.ensures, c.in-30.is)

pub returns-in_default : goal.returns-in_default
unfolding member skipped unit_of
returns-in_default c =
    sym
    (of_none
    ((entity_skipped ∷ []) ∷ (ordered_skipped ∷ []) ∷ (relation_skipped ∷ []) ∷ (template_skipped ∷ []) ∷ (call_skipped ∷ []) ∷ (file_skipped ∷ [])
    ∷ (er_skipped ∷ []) ∷ (stream_skipped ∷ []) ∷ [])
    tt c.args.state _ c.skipped_state.ensures c.in_default.in_default-own.rest)
