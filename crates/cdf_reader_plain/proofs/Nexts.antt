-- A start and NEXTs as a run of calls: its answers are those of `reading`, which are the unit list and then the check's, for ever.
use Rattle.std.proofs.Common.{ℕ, zero, suc, ◌*◌, ◌≤◌, ◌≡◌, refl, sym, ap, ◌∙◌, Bool, true, false, cond, List, [], ◌∷◌, eqb, length, replicate}
use Rattle.cdf_unit_prefix.specs.Layout.{Layout, prefix_of}
use Rattle.cdf_unit_list.specs.Units.{listing}
use Rattle.cdf_unit_list.specs.Check.{check_of}
use Rattle.cdf_unit_list.specs.Ranks.{ranked_units}
use Rattle.cdf_unit_list.specs.declared.Ranked.{Ranked}
use Rattle.cdf_reader_spec.specs.Calls.{Reply, empty_place, first_of, next_of, no_part}
use Rattle.cdf_reader_spec.specs.declared.Call.TheVariants.{Start, Next}
use Rattle.cdf_reader_runs.specs.Runs.{reading, Outcome, outcome, afterwards, due, handed_out}
use Rattle.cdf_reader_runs.proofs.Readings.{onward, reading_onward}
use Rattle.cdf_reader_runs.proofs.Proved.{proved as runs}
use Rattle.cdf_reader_plain.specs.Calls.{Told, handing}
use Rattle.cdf_reader_plain.specs.Runs.{reader_run}
use Rattle.cdf_reader_plain.specs.Nexts.{handing_all, partless, ever_after, zeros}
use Rattle.cdf_reader_plain.proofs.Equations.{telling, start_call, next_call, reader_none, reader_on}

-- The first n of a sequence.
unfoldable front : ℕ → (ℕ → Told) → List Told
front zero f = []
front (suc n) f = f zero ∷ front n (λ m. f (suc m))

front_same : (n : ℕ) (f g : ℕ → Told) → ((m : ℕ) → f m ≡ g m) → front n f ≡ front n g
unfolding front
front_same zero f g e = refl
front_same (suc n) f g e = rw (e zero, front_same n (λ m. f (suc m)) (λ m. g (suc m)) (λ m. e (suc m)))

-- What is due, entry by entry and as a list.
all_handed : (last : Outcome) (us : List Ranked) (n : ℕ) → front n (λ m. partless (due last us m)) ≡ handing_all n us (partless last)
unfolding front due handing_all
all_handed last us zero = refl
all_handed last [] (suc n) = ap (λ ts. partless last ∷ ts) (all_handed last [] n)
all_handed last (u ∷ us) (suc n) = ap (λ ts. handing u ∷ ts) (all_handed last us n)

-- The zeros below n, from the last on, as `handed_out` counts them; from the first on they are as many.
unfoldable counted : (ℕ → ℕ) → ℕ → ℕ
counted f zero = 0
counted f (suc n) = cond (eqb (f n) 0) (suc (counted f n)) (counted f n)

counted_first : (f : ℕ → ℕ) (n : ℕ) →
    counted f (suc n) ≡ cond (eqb (f zero) 0) (suc (counted (λ m. f (suc m)) n)) (counted (λ m. f (suc m)) n)
unfolding counted
counted_first f zero = refl
counted_first f (suc n) =
    ap (λ c. cond (eqb (f (suc n)) 0) (suc c) c) (counted_first f n)
    ∙ swap (eqb (f (suc n)) 0) (eqb (f zero) 0) (counted (λ m. f (suc m)) n)
  where
    swap : (a b : Bool) (c : ℕ) → cond a (suc (cond b (suc c) c)) (cond b (suc c) c) ≡ cond b (suc (cond a (suc c) c)) (cond a (suc c) c)
    swap true true c = refl
    swap true false c = refl
    swap false true c = refl
    swap false false c = refl

zeros_front : (f : ℕ → Told) (n : ℕ) → zeros (front n f) ≡ counted (λ m. (f m).number) n
unfolding front zeros counted
zeros_front f zero = refl
zeros_front f (suc n) =
    ap (λ c. cond (eqb (f zero).number 0) (suc c) c) (zeros_front (λ m. f (suc m)) n) ∙ sym (counted_first (λ m. (f m).number) n)

module _ (l : Layout) (s : List ℕ) where
  -- After an answer: those of the nexts from its place,
  nexts_from : (k : ℕ) (r : Reply) →
      reader_run l s r.place (replicate k Next) ≡ front k (λ m. telling (onward l s r (suc m)) no_part)
  unfolding front onward
  nexts_from zero r = reader_none l s r.place
  nexts_from (suc k) r =
      let c = next_call l s r.place in
      rw (reader_on l s r.place Next (replicate k Next), c.0, c.1, nexts_from k (next_of l s r.place))

  -- and so from a start: the two kinds of run are one.
  nexts_reading : (k : ℕ) → reader_run l s empty_place (Start ∷ replicate k Next) ≡ front (suc k) (λ m. telling (reading l s m) no_part)
  unfolding front onward
  nexts_reading k =
      let c = start_call l s empty_place in
      rw (reader_on l s empty_place Start (replicate k Next), c.0, c.1, nexts_from k (first_of l s))
      (front_same (suc k) (λ m. telling (onward l s (first_of l s) m) no_part) (λ m. telling (reading l s m) no_part)
      (λ m. rw (reading_onward l s m)))

  pub nexts : ((listing l s).units ≡ [] → ⊥) → (k : ℕ) →
      reader_run l s empty_place (Start ∷ replicate k Next) ≡ handing_all (suc k) (ranked_units l s) (ever_after (check_of l s))
  unfolding outcome
  nexts some k =
      let last = afterwards (check_of l s) in
      nexts_reading k
      ∙ front_same (suc k) (λ m. telling (reading l s m) no_part) (λ m. partless (due last (ranked_units l s) m))
      (λ m. ap partless (runs.reads l s some m))
      ∙ all_handed last (ranked_units l s) (suc k)

  handed_counted : (n : ℕ) → handed_out l s n ≡ counted (λ m. (reading l s m).number) n
  unfolding handed_out counted
  handed_counted zero = refl
  handed_counted (suc n) = ap (λ c. cond (eqb (reading l s n).number 0) (suc c) c) (handed_counted n)

  pub few : (k : ℕ) → zeros (reader_run l s empty_place (Start ∷ replicate k Next)) * prefix_of l ≤ length s
  few k =
      rw (nexts_reading k, zeros_front (λ m. telling (reading l s m) no_part) (suc k), ← handed_counted (suc k))
      (runs.few l s (suc k))
