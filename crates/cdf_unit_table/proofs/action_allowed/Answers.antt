-- The arms give the actions of their ids; any other unit has the action none, by a test over the kinds.
use mathlib.Core.Bool.{or-false}
use Rattle.std.proofs.Common.{[], ◌∷◌, ⊎_elim}
use Rattle.cdf_unit_table.specs.Ids.{action_allowed, known}
use Rattle.cdf_unit_table.proofs.Others.{none_else}
use Rattle.cdf_unit_table.proofs.action_allowed.Goals as goal

pub returns-in-5 : goal.returns-in-5
unfolding action_allowed
returns-in-5 c = ⊎_elim (λ e. rw e (simp or-false)) (λ e. rw e (simp or-false)) c.in-5.is

pub returns-in-9 : goal.returns-in-9
unfolding action_allowed
returns-in-9 c = rw c.in-9.is (simp or-false)

pub returns-in-10 : goal.returns-in-10
unfolding action_allowed
returns-in-10 c = rw c.in-10.is (simp or-false)

pub returns-in_default : goal.returns-in_default
unfolding known action_allowed
returns-in_default c = none_else ((10 ∷ []) ∷ (9 ∷ []) ∷ (5 ∷ 8 ∷ []) ∷ []) tt _ _ c.in_default.in_default-own.rest
