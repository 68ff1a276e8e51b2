-- How many units come of a start and nexts: each takes a prefix at least.
use Rattle.std.proofs.Common.{ℕ, zero, suc, ◌*◌, ◌≤◌, ◌<◌, ◌≡◌, refl, ap, sym, ◌∙◌, List, [], ◌∷◌, arith, mul-le-mul_right, eqb-true, eqb, length}
use Rattle.std.proofs.lemmas.Bool.{eqb-false}
use Rattle.std.proofs.lemmas.List.{length-map}
use Rattle.cdf_unit_table.proofs.Bools.{of_cond, clash}
use Rattle.cdf_unit_prefix.specs.Layout.{Layout, prefix_of}
use Rattle.cdf_unit_list.specs.Units.{End, listing}
use Rattle.cdf_unit_list.specs.Stack.{Step}
use Rattle.cdf_unit_list.specs.Check.{Verdict, check_of}
use Rattle.cdf_unit_list.specs.Ranks.{ranked, ranked_units}
use Rattle.cdf_unit_list.specs.declared.Unit.{Unit}
use Rattle.cdf_unit_list.specs.declared.Ranked.{Ranked}
use Rattle.cdf_unit_list.proofs.Low.{ranked_units_lem}
use Rattle.cdf_unit_list.proofs.Proved.{proved}
use Rattle.cdf_reader_spec.specs.Calls.{Reply, empty_place, no_ranked, stepped}
use Rattle.cdf_reader_runs.specs.Runs.{reading, Outcome, outcome, afterwards, due, handed_out}
use Rattle.cdf_reader_runs.proofs.Keeps.{Keeps, first_keeps}
use Rattle.cdf_reader_spec.proofs.Replying.{first_is}
use Rattle.cdf_reader_runs.proofs.Replies.{next_empty}
use Rattle.cdf_reader_runs.proofs.Steps.{Run, ends, breaks, hands, listed}
use Rattle.cdf_reader_runs.proofs.Readings.{reading_first, reading_next, reads}

-- Past the last unit the number is not 0.
pub afterwards_none : (a : Verdict) → (afterwards a).number ≡ 0 → ⊥
unfolding afterwards
afterwards_none a =
    of_cond (λ (t : Outcome). t.number ≡ 0 → ⊥) (eqb a.number 0) _ (record { number = a.number; offset = a.value; handed = no_ranked })
    (λ e z. omega arith) (λ e. eqb-false a.number 0 e)

-- So 0 is due only of the units.
due_zero : (last : Outcome) → (last.number ≡ 0 → ⊥) → (us : List Ranked) (k : ℕ) → (due last us k).number ≡ 0 → k < length us
unfolding due
due_zero last none [] k z = absurd (none z)
due_zero last none (u ∷ us) zero z = omega arith
due_zero last none (u ∷ us) (suc k) z = omega (arith, due_zero last none us k z)

-- With depth and rank they are as many.
length_ranked : (us vs : List Unit) → length (ranked us vs) ≡ length vs
length_ranked us vs = sym (length-map (ranked us vs) (λ r. r.unit)) ∙ ap length (ranked_units_lem us vs)

module _ (l : Layout) (s : List ℕ) where
  -- A refusal with the empty place: so answers a start where no unit is listed, and every next after it.
  record Refused (r : Reply) : Type 0 where
    number : r.number ≡ 0 → ⊥
    place : r.place ≡ empty_place

  start_refused : {x : Step} {us : List Unit} {e : End} → Run l s x us e → us ≡ [] → Keeps l s empty_place x → Refused (stepped empty_place x)
  unfolding stepped
  start_refused ends none keeps = record { number = λ z. omega arith; place = refl }
  start_refused breaks none keeps = record { number = keeps; place = refl }
  start_refused (hands run) none keeps = clash cc

  all_refused : (listing l s).units ≡ [] → (k : ℕ) → Refused (reading l s k)
  all_refused none zero = rw (reading_first l s, first_is l s) (start_refused (listed l s) none (first_keeps l s))
  all_refused none (suc k) =
      rw (reading_next l s k, (all_refused none k).place, next_empty l s) (record { number = λ z. omega arith; place = refl })

  -- Only the first answers hand out a unit, as many as are listed.
  zero_below : (us : List Unit) → (listing l s).units ≡ us → (k : ℕ) → (reading l s k).number ≡ 0 → k < length us
  unfolding outcome ranked_units
  zero_below [] e k z = absurd ((all_refused e k).number z)
  zero_below (u ∷ us) e k z =
      let r = reads l s (λ none. clash cc) k in
      let below = due_zero (afterwards (check_of l s)) (afterwards_none (check_of l s)) (ranked_units l s) k (sym (ap (λ t. t.number) r) ∙ z) in
      omega (arith, length_ranked [] (listing l s).units, ap length e)

  -- If only answers before the m-th hand out a unit, at most m do.
  handed : (m : ℕ) → ((k : ℕ) → (reading l s k).number ≡ 0 → k < m) → (k : ℕ) → (handed_out l s k ≤ k) × (handed_out l s k ≤ m)
  unfolding handed_out
  handed m below zero = omega arith
  handed m below (suc k) =
      let h = handed m below k in
      of_cond (λ n. (n ≤ suc k) × (n ≤ m)) (eqb (reading l s k).number 0) (suc (handed_out l s k)) (handed_out l s k)
      (λ e. omega (arith, below k (eqb-true (reading l s k).number 0 e))) (λ e. omega arith)

  -- Each listed unit takes a prefix.
  pub few : (k : ℕ) → handed_out l s k * prefix_of l ≤ length s
  few k =
      let h = handed (length (listing l s).units) (zero_below (listing l s).units refl) k in
      omega (arith, mul-le-mul_right (prefix_of l) h.1, proved.few l s)
