-- The unit list as a run of steps, from the start's to one that finds no unit.
use Rattle.std.proofs.Common.{ℕ, zero, suc, ◌<◌, ◌≡◌, refl, List, [], ◌∷◌, arith, length}
use mathlib.Core.List.{reverse_aux}
use Rattle.cdf_unit_table.proofs.Bools.{clash}
use Rattle.cdf_unit_prefix.specs.Layout.{Layout}
use Rattle.cdf_unit_list.specs.Units.{End, unfinished, ended, fault, Listing, listing}
use Rattle.cdf_unit_list.specs.Stack.{Step, done, refused, found, step}
use Rattle.cdf_unit_list.specs.Steps.{steps_from}
use Rattle.cdf_unit_list.specs.declared.Unit.{Unit}
use Rattle.cdf_unit_list.specs.declared.Open.{Open}
use Rattle.cdf_unit_list.proofs.Proved.{proved}
use Rattle.cdf_unit_list.proofs.Stepping.{listing_steps}
use Rattle.cdf_reader_spec.proofs.Replying.{start}

module _ (l : Layout) (s : List ℕ) where
  -- From a step on, these units are found and then this end.
  pub data Run : Step → List Unit → End → Type 0 where
    ends : Run done [] ended
    breaks : {n at : ℕ} → Run (refused n at) [] (fault n at)
    hands : {u : Unit} {os : List Open} {pos : ℕ} {us : List Unit} {e : End} → Run (step l s os pos) us e →
        Run (found u os pos) (u ∷ us) e

  -- What steps list after the units before, the last one first.
  record Lists (x : Step) (before : List Unit) (r : Listing) : Type 0 where
    units : List Unit
    all : r.units ≡ reverse_aux before units
    run : Run x units r.end

  -- Steps that do not run out of fuel come to an end.
  lists : (f : ℕ) (x : Step) (us : List Unit) → ((steps_from f l s x us).end ≡ unfinished → ⊥) → Lists x us (steps_from f l s x us)
  unfolding steps_from
  lists zero x us more = absurd (more refl)
  lists (suc f) done us more = record { units = []; all = refl; run = ends }
  lists (suc f) (refused n at) us more = record { units = []; all = refl; run = breaks }
  lists (suc f) (found u os pos) us more =
      let r = lists f (step l s os pos) (u ∷ us) more in
      record { units = u ∷ r.units; all = r.all; run = hands r.run }

  -- The steps from the start are the unit list.
  pub listed : Run (start l s) (listing l s).units (listing l s).end
  listed =
      let r = lists (suc (length s)) (start l s) [] (λ z. proved.finishes l s (rw (listing_steps l s) z)) in
      rw (listing_steps l s, r.all) r.run

  -- Steps that come to the end are a run,
  pub ended_run : (f : ℕ) (x : Step) (before : List Unit) → (steps_from f l s x before).end ≡ ended →
      (us : List Unit) × ((steps_from f l s x before).units ≡ reverse_aux before us) × Run x us ended
  ended_run f x before e =
      let r = lists f x before (λ z. clash cc) in
      (r.units, r.all, rw e at r.run)

  -- and a run is what steps list that have fuel for it.
  pub run_steps : {x : Step} {us : List Unit} {e : End} → Run x us e → (f : ℕ) → length us < f → (before : List Unit) →
      steps_from f l s x before ≡ record { units = reverse_aux before us; end = e }
  unfolding steps_from
  run_steps run zero less before = absurd (omega arith)
  run_steps ends (suc f) less before = refl
  run_steps breaks (suc f) less before = refl
  run_steps {e = e} (hands {u = u} {os = os} {pos = pos} {us = us} run) (suc f) less before =
      run_steps {x = step l s os pos} run f (omega arith) (u ∷ before)
