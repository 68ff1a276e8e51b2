-- The unit list is what comes of a start and nexts.
use Rattle.std.proofs.Common.{ℕ, zero, suc, ◌≡◌, refl, ap, ◌∙◌, List, [], ◌∷◌, ne_eqb, length}
use Rattle.cdf_unit_prefix.specs.Layout.{Layout}
use Rattle.cdf_unit_list.specs.Units.{End, listing}
use Rattle.cdf_unit_list.specs.Ranks.{ranked, ranked_units}
use Rattle.cdf_unit_list.specs.Stack.{Step, done, refused}
use Rattle.cdf_unit_list.specs.Check.{answer_of, answer, check_of}
use Rattle.cdf_unit_list.specs.declared.Unit.{Unit}
use Rattle.cdf_reader_spec.specs.Place.{ReaderPlace}
use Rattle.cdf_reader_spec.specs.Calls.{Reply, empty_place, place_at, stepped, first_of, next_of}
use Rattle.cdf_reader_runs.specs.Runs.{reading, outcome, afterwards, due}
use Rattle.cdf_reader_runs.proofs.Keeps.{Keeps, first_keeps, next_keeps}
use Rattle.cdf_reader_spec.proofs.Replying.{first_is, next_is}
use Rattle.cdf_reader_runs.proofs.Steps.{Run, ends, breaks, hands, listed}
use Rattle.cdf_reader_runs.proofs.Looping.{Stands, stands_next}

module _ (l : Layout) (s : List ℕ) where
  -- The answers by the calls.
  pub reading_first : reading l s zero ≡ first_of l s
  unfolding reading
  reading_first = refl

  pub reading_next : (k : ℕ) → reading l s (suc k) ≡ next_of l s (reading l s k).place
  unfolding reading
  reading_next k = refl

  -- The k-th answer after this one, from its place.
  unfoldable pub onward : Reply → ℕ → Reply
  onward r zero = r
  onward r (suc k) = onward (next_of l s r.place) k

  onward_next : (r : Reply) (k : ℕ) → next_of l s (onward r k).place ≡ onward r (suc k)
  unfolding onward
  onward_next r zero = refl
  onward_next r (suc k) = onward_next (next_of l s r.place) k

  pub reading_onward : (k : ℕ) → reading l s k ≡ onward (first_of l s) k
  unfolding onward
  reading_onward zero = reading_first
  reading_onward (suc k) = rw (reading_next k, reading_onward k) (onward_next (first_of l s) k)

  -- A call that returns the place it was given answers the same for ever.
  stays : (r : Reply) → next_of l s r.place ≡ r → (k : ℕ) → onward r k ≡ r
  unfolding onward
  stays r same zero = refl
  stays r same (suc k) = rw same (stays r same k)

  -- A step's own answer: its first unit, or what the end comes to.
  begins_from : {x : Step} {us : List Unit} {e : End} → Run l s x us e → (before : List Unit) (p : ReaderPlace) → Keeps l s p x →
      Stands l s before p x → (count : ℕ) → outcome (stepped p x) ≡ due (afterwards (answer_of count e)) (ranked before us) 0
  unfolding stepped outcome due afterwards answer_of ranked
  begins_from ends before p keeps h count = refl
  begins_from (breaks {n} {at}) before p keeps h count = rw (ne_eqb n 0 keeps)
  begins_from (hands {u = u} {os = os} {pos = pos} run) before p keeps h count = rw (stands_next l s before p u os pos h keeps).0.handed

  -- From a step on: its units, and then what the end comes to, for ever. With none left, a next from the place is this step.
  reads_from : {x : Step} {us : List Unit} {e : End} → Run l s x us e → (before : List Unit) (p : ReaderPlace) → Keeps l s p x →
      Stands l s before p x → (us ≡ [] → next_of l s p ≡ stepped p x) → (count k : ℕ) →
      outcome (onward (stepped p x) k) ≡ due (afterwards (answer_of count e)) (ranked before us) k
  unfolding stepped outcome due afterwards answer_of onward ranked
  reads_from ends before p keeps h again count k = rw (stays (stepped p done) (again refl) k)
  reads_from (breaks {n} {at}) before p keeps h again count k =
      rw (stays (stepped p (refused n at)) (again refl) k, ne_eqb n 0 keeps)
  reads_from (hands {u = u} {os = os} {pos = pos} run) before p keeps h again count zero =
      rw (stands_next l s before p u os pos h keeps).0.handed
  reads_from (hands {u = u} {os = os} {pos = pos} run) before p keeps h again count (suc k) =
      let q = place_at p u os pos in
      let next = next_is l s q keeps in
      ap (λ r. outcome (onward r k)) next
      ∙ reads_from run (u ∷ before) q (next_keeps l s q keeps) (stands_next l s before p u os pos h keeps) (λ z. next) count k

  -- The check's answer is that of the unit list.
  pub check_is : check_of l s ≡ answer_of (length (listing l s).units) (listing l s).end
  unfolding check_of answer
  check_is = refl

  -- The start's place has no next, but its step found a unit.
  pub reads : ((listing l s).units ≡ [] → ⊥) → (k : ℕ) →
      outcome (reading l s k) ≡ due (afterwards (check_of l s)) (ranked_units l s) k
  unfolding ranked_units
  reads some k =
      rw (reading_onward k, first_is l s, check_is)
      (reads_from (listed l s) [] empty_place (first_keeps l s) (refl, refl) (λ z. absurd (some z)) (length (listing l s).units) k)

  pub begins : outcome (first_of l s) ≡ due (afterwards (check_of l s)) (ranked_units l s) 0
  unfolding ranked_units
  begins = rw (first_is l s, check_is) (begins_from (listed l s) [] empty_place (first_keeps l s) (refl, refl) (length (listing l s).units))
