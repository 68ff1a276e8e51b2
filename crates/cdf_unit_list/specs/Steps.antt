-- The steps of the stack, one after the other: a tool of proofs, which give the unit list by a law (proofs/Agreement).
use Rattle.std.specs.Prelude.{ℕ, zero, suc, List, [], ◌∷◌, reverse, length}
use Rattle.cdf_unit_prefix.specs.Layout.{Layout}
use Rattle.cdf_unit_list.specs.Units.{Listing, unfinished, ended, fault}
use Rattle.cdf_unit_list.specs.declared.Unit.{Unit}
use Rattle.cdf_unit_judge.specs.Judge.{Judged}
use Rattle.cdf_unit_list.specs.Stack.{Step, entered, step, done, refused, found, step_by}

-- From a step and the units so far, the last one first.
unfoldable pub steps_from : ℕ → Layout → List ℕ → Step → List Unit → Listing
unfolding step_by
steps_from zero l s x us = record { units = reverse us; end = unfinished }
steps_from (suc f) l s done us = record { units = reverse us; end = ended }
steps_from (suc f) l s (refused n at) us = record { units = reverse us; end = fault n at }
steps_from (suc f) l s (found u os pos) us = steps_from f l s (step l s os pos) (u ∷ us)

unfoldable pub steps : Layout → List ℕ → Judged → Listing
unfolding steps_from entered
steps l s first = steps_from (suc (length s)) l s (entered 0 (λ state. []) first) []
