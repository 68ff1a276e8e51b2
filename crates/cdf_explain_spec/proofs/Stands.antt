-- Where the unit list stops: the last step, and what the tool tells by it.
use Rattle.std.proofs.Common.{ℕ, ◌≡◌, refl, List, [], ◌∷◌, reverse}
use Rattle.std.proofs.lemmas.List.{reverse-reverse}
use mathlib.Core.List.{reverse_aux}
use Rattle.cdf_unit_prefix.specs.Layout.{Layout}
use Rattle.cdf_unit_list.specs.Units.{End, listing}
use Rattle.cdf_unit_list.specs.Stack.{Step, done, refused}
use Rattle.cdf_unit_list.specs.declared.Unit.{Unit}
use Rattle.cdf_reader_spec.specs.Place.{ReaderPlace}
use Rattle.cdf_reader_spec.specs.Calls.{empty_place, place_at}
use Rattle.cdf_reader_runs.proofs.Keeps.{Keeps, first_keeps, next_keeps}
use Rattle.cdf_reader_runs.proofs.Looping.{Stands, stands_next, Stops, at_end_lem, at_fault}
use Rattle.cdf_reader_runs.proofs.Steps.{Run, ends, breaks, hands, listed}
use Rattle.cdf_explain_spec.specs.Why.{why_after, why_of}

module _ (l : Layout) (s : List ℕ) where
  -- The last step, with all units before it.
  pub record Final : Type 0 where
    pub before : List Unit
    pub place : ReaderPlace
    pub taken : Step
    pub units : (listing l s).units ≡ reverse before
    pub stands : Stands l s before place taken
    pub stops : Stops l s taken (listing l s).end

  final_from : {x : Step} {us : List Unit} {e : End} → Run l s x us e → e ≡ (listing l s).end → (before : List Unit) →
      (listing l s).units ≡ reverse_aux before us → (p : ReaderPlace) → Keeps l s p x → Stands l s before p x → Final
  final_from ends q before all p k h =
      record { before = before; place = p; taken = done; units = all; stands = h; stops = rw (← q) at_end_lem }
  final_from (breaks {n} {at}) q before all p k h =
      record { before = before; place = p; taken = refused n at; units = all; stands = h; stops = rw (← q) at_fault }
  final_from (hands {u = u} {os = os} {pos = pos} run) q before all p k h =
      let next = place_at p u os pos in
      final_from run q (u ∷ before) all next (next_keeps l s next k) (stands_next l s before p u os pos h k)

  pub final : Final
  final = final_from (listed l s) refl [] refl empty_place (first_keeps l s) (refl, refl)

  -- What the tool tells, by the last step.
  pub why_after_lem : (before : List Unit) → (listing l s).units ≡ reverse before → why_of l s ≡ why_after before (listing l s).end
  unfolding why_of
  why_after_lem before e = rw (e, reverse-reverse)
