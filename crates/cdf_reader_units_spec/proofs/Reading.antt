-- Batches from a start on hand out the unit list, and then the end of it.
use Rattle.std.proofs.Common.{ℕ, zero, suc, ◌+◌, ◌≤◌, ◌≡◌, refl, sym, ap, ◌∙◌, List, [], ◌∷◌, add-one, arith, length, take, drop, drop_of_length-le}
use Rattle.std.proofs.Common.{drop-drop}
use Rattle.cdf_unit_prefix.specs.Layout.{Layout}
use Rattle.cdf_unit_list.specs.Units.{listing}
use Rattle.cdf_unit_list.specs.Ranks.{ranked, ranked_units}
use Rattle.cdf_unit_list.specs.Check.{check_of}
use Rattle.cdf_unit_list.specs.declared.Ranked.{Ranked}
use Rattle.cdf_reader_spec.specs.Place.{ReaderPlace}
use Rattle.cdf_reader_spec.specs.Calls.{Reply, first_of, next_of}
use Rattle.cdf_reader_runs.specs.Runs.{Outcome, reading, outcome, afterwards, due}
use Rattle.cdf_reader_runs.proofs.Handed.{afterwards_none}
use Rattle.cdf_reader_runs.proofs.Readings.{reading_first, reading_next, reads, begins}
use Rattle.cdf_reader_units_spec.specs.Batch.{Batch, no_units, with_unit, batch_of}
use Rattle.cdf_reader_units_spec.proofs.Batches.{stops, by_room}

-- What is due from one answer on goes by what is left of the list there.
due_left : (last : Outcome) (xs ys : List Ranked) (k : ℕ) → drop k xs ≡ ys → due last xs k ≡ due last ys 0
unfolding due
due_left last xs ys zero e = ap (λ zs. due last zs 0) e
due_left last [] ys (suc k) e = rw (← e)
due_left last (x ∷ xs) ys (suc k) e = due_left last xs ys k e

due_none : (last : Outcome) (k : ℕ) → due last [] k ≡ last
unfolding due
due_none last k = refl

due_first : (last : Outcome) (u : Ranked) (us : List Ranked) → due last (u ∷ us) 0 ≡ record { number = 0; offset = 0; handed = u }
unfolding due
due_first last u us = refl

rest_left : (xs us : List Ranked) (u : Ranked) (k : ℕ) → drop k xs ≡ u ∷ us → drop (suc k) xs ≡ us
rest_left xs us u k e = sym (drop-drop 1 k xs ∙ ap (λ n. drop n xs) (add-one k)) ∙ ap (drop 1) e

module _ (l : Layout) (s : List ℕ) where
  abbrev last : Outcome
  last = afterwards (check_of l s)

  told : (r : Reply) (o : Outcome) → outcome r ≡ o → (r.number ≡ o.number) × (r.offset ≡ o.offset) × (r.handed ≡ o.handed)
  unfolding outcome
  told r o e = (ap (λ (x : Outcome). x.number) e, ap (λ (x : Outcome). x.offset) e, ap (λ (x : Outcome). x.handed) e)

  -- A start that hands out the root has one to list.
  some_listed : (first_of l s).number ≡ 0 → (listing l s).units ≡ [] → ⊥
  unfolding ranked_units ranked
  some_listed z none =
      let first : outcome (first_of l s) ≡ due last [] 0 = begins l s ∙ ap (λ us. due last (ranked [] us) 0) none in
      afterwards_none (check_of l s) (sym (told (first_of l s) last (first ∙ due_none last 0)).0 ∙ z)

  module _ (z : (first_of l s).number ≡ 0) where
    -- The answer after k units, by what is left of the list.
    answer : (k : ℕ) (p : ReaderPlace) (ys : List Ranked) → p ≡ (reading l s k).place → drop (suc k) (ranked_units l s) ≡ ys →
        outcome (next_of l s p) ≡ due last ys 0
    answer k p ys at left =
        ap (λ q. outcome (next_of l s q)) at ∙ ap outcome (sym (reading_next l s k)) ∙ reads l s (some_listed z) (suc k)
        ∙ due_left last (ranked_units l s) ys (suc k) left

    stopped : (k : ℕ) (p : ReaderPlace) → p ≡ (reading l s k).place → drop (suc k) (ranked_units l s) ≡ [] → outcome (next_of l s p) ≡ last
    stopped k p at left = answer k p [] at left ∙ due_none last 0

    handed : (k : ℕ) (p : ReaderPlace) (u : Ranked) (us : List Ranked) → p ≡ (reading l s k).place → drop (suc k) (ranked_units l s) ≡ u ∷ us →
        ((next_of l s p).number ≡ 0) × ((next_of l s p).handed ≡ u)
    handed k p u us at left = let t = told (next_of l s p) _ (answer k p (u ∷ us) at left ∙ due_first last u us) in (t.0, t.2)

    onward : (k : ℕ) (p : ReaderPlace) → p ≡ (reading l s k).place → (next_of l s p).place ≡ (reading l s (suc k)).place
    onward k p at = ap (λ q. (next_of l s q).place) at ∙ ap (λ (r : Reply). r.place) (sym (reading_next l s k))

    -- The units of a batch behind k units: those that are left, as far as the room goes.
    abbrev Units : ReaderPlace → ℕ → Batch → Type 0
    Units p room b = (k : ℕ) → p ≡ (reading l s k).place → b.units ≡ take room (drop (suc k) (ranked_units l s))

    units_from : (p : ReaderPlace) (room : ℕ) → Units p room (batch_of l s p room)
    units_from = by_room l s Units (λ p n h k at. refl) (λ p f k at. refl) stop on
      where
        stop : (p : ReaderPlace) (room : ℕ) → ((next_of l s p).number ≡ 0 → ⊥) →
            Units p (suc room) (no_units (next_of l s p).number (next_of l s p).offset p)
        stop p room some k at = go (drop (suc k) (ranked_units l s)) refl
          where
            go : (ys : List Ranked) → drop (suc k) (ranked_units l s) ≡ ys → [] ≡ take (suc room) ys
            go [] left = refl
            go (u ∷ us) left = absurd (some (handed k p u us at left).0)

        on : (p : ReaderPlace) (room : ℕ) → (next_of l s p).number ≡ 0 →
            Units (next_of l s p).place room (batch_of l s (next_of l s p).place room) →
            Units p (suc room) (with_unit (next_of l s p).handed (batch_of l s (next_of l s p).place room))
        on p room none more k at = go (drop (suc k) (ranked_units l s)) refl
          where
            go : (ys : List Ranked) → drop (suc k) (ranked_units l s) ≡ ys →
                (next_of l s p).handed ∷ (batch_of l s (next_of l s p).place room).units ≡ take (suc room) ys
            go [] left = absurd (afterwards_none (check_of l s) (sym (told (next_of l s p) last (stopped k p at left)).0 ∙ none))
            go (u ∷ us) left =
                rw ((handed k p u us at left).1, more (suc k) (onward k p at), rest_left (ranked_units l s) us u (suc k) left)

    -- What comes behind a batch with room for all that is left.
    abbrev Ends : ReaderPlace → ℕ → Batch → Type 0
    Ends p room b = (k : ℕ) → p ≡ (reading l s k).place → length (ranked_units l s) ≤ suc k + room → outcome (next_of l s b.place) ≡ last

    all_left : (p : ReaderPlace) (k : ℕ) → p ≡ (reading l s k).place → length (ranked_units l s) ≤ suc k + 0 → outcome (next_of l s p) ≡ last
    all_left p k at few = stopped k p at (drop_of_length-le (ranked_units l s) {i = suc k} (omega arith))

    ends_from : (p : ReaderPlace) (room : ℕ) → Ends p room (batch_of l s p room)
    ends_from =
        by_room l s Ends (λ p n h. all_left p) (λ p f. all_left p) stop (λ p room none more k at few. more (suc k) (onward k p at) (omega arith))
      where
        stop : (p : ReaderPlace) (room : ℕ) → ((next_of l s p).number ≡ 0 → ⊥) →
            Ends p (suc room) (no_units (next_of l s p).number (next_of l s p).offset p)
        stop p room some k at few = go (drop (suc k) (ranked_units l s)) refl
          where
            go : (ys : List Ranked) → drop (suc k) (ranked_units l s) ≡ ys → outcome (next_of l s p) ≡ last
            go [] left = stopped k p at left
            go (u ∷ us) left = absurd (some (handed k p u us at left).0)

    begun : (first_of l s).place ≡ (reading l s 0).place
    begun = ap (λ (r : Reply). r.place) (sym (reading_first l s))

  pub reads_units : (room : ℕ) → (first_of l s).number ≡ 0 →
      (first_of l s).handed ∷ (batch_of l s (first_of l s).place room).units ≡ take (suc room) (ranked_units l s)
  reads_units room z = rw (units_from z (first_of l s).place room 0 (begun z)) (go (ranked_units l s) refl)
    where
      begun_by : (xs : List Ranked) → ranked_units l s ≡ xs → outcome (first_of l s) ≡ due last xs 0
      begun_by xs e = begins l s ∙ ap (λ us. due last us 0) e

      go : (xs : List Ranked) → ranked_units l s ≡ xs → (first_of l s).handed ∷ take room (drop 1 (ranked_units l s)) ≡ take (suc room) (ranked_units l s)
      go [] e = absurd (afterwards_none (check_of l s) (sym (told (first_of l s) last (begun_by [] e ∙ due_none last 0)).0 ∙ z))
      go (u ∷ us) e =
          let t = told (first_of l s) _ (begun_by (u ∷ us) e ∙ due_first last u us) in rw (e, t.2)

  pub reads_end : (room more : ℕ) → (first_of l s).number ≡ 0 → length (ranked_units l s) ≤ suc room →
      let end = batch_of l s (batch_of l s (first_of l s).place room).place (suc more) in
      (end.number ≡ (afterwards (check_of l s)).number) × (end.offset ≡ (afterwards (check_of l s)).offset)
  reads_end room more z few =
      let q = (batch_of l s (first_of l s).place room).place in
      let t = told (next_of l s q) last (ends_from z (first_of l s).place room 0 (begun z) (omega arith)) in
      rw (stops l s q more (λ e. afterwards_none (check_of l s) (sym t.0 ∙ e))) (t.0, t.1)
