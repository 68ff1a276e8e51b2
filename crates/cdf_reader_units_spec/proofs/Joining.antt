-- What follows for every batch, and for two after each other.
use Rattle.std.proofs.Common.{ℕ, suc, ◌+◌, ◌≤◌, ◌<◌, ◌≡◌, refl, ap, true, List, [], ◌∷◌, ◌++◌, zero-add, suc-add, arith, length}
use Rattle.cdf_unit_prefix.specs.Layout.{Layout}
use Rattle.cdf_reader_spec.specs.Place.{ReaderPlace, fits}
use Rattle.cdf_reader_spec.specs.Calls.{next_of}
use Rattle.cdf_reader_runs.proofs.Replies.{next_fits}
use Rattle.cdf_reader_units_spec.specs.Batch.{Batch, no_units, batch_of}
use Rattle.cdf_reader_units_spec.proofs.Batches.{stops, goes_on, by_room}

module _ (l : Layout) (s : List ℕ) where
  pub refused : (p : ReaderPlace) (room : ℕ) → ((batch_of l s p room).number ≡ 0 → ⊥) →
      ((batch_of l s p room).units ≡ []) × ((batch_of l s p room).place ≡ p)
  refused =
      by_room l s (λ p room b. (b.number ≡ 0 → ⊥) → (b.units ≡ []) × (b.place ≡ p)) (λ p n h some. (refl, refl))
      (λ p f some. (refl, refl)) (λ p room h some. (refl, refl)) (λ p room z on some. absurd (some refl))

  pub within : (p : ReaderPlace) (room : ℕ) → length (batch_of l s p room).units ≤ room
  within =
      by_room l s (λ p room b. length b.units ≤ room) (λ p n h. omega arith) (λ p f. omega arith) (λ p room h. omega arith)
      (λ p room z on. omega arith)

  -- The place behind NEXTs fits, as the one before them does.
  pub fitting_after : (p : ReaderPlace) (room : ℕ) → (batch_of l s p room).number ≡ 0 → fits l (length s) (batch_of l s p room).place ≡ true
  fitting_after =
      by_room l s (λ p room b. b.number ≡ 0 → fits l (length s) b.place ≡ true) (λ p n h e. absurd (h e)) (λ p f e. f)
      (λ p room h e. absurd (h e)) (λ p room z on e. keeps (next_of l s p).place room (next_fits l s p z))
    where
      keeps : (p : ReaderPlace) (room : ℕ) → fits l (length s) p ≡ true → fits l (length s) (batch_of l s p room).place ≡ true
      keeps =
          by_room l s (λ p room b. fits l (length s) p ≡ true → fits l (length s) b.place ≡ true) (λ p n h f. f) (λ p g f. f)
          (λ p room h f. f) (λ p room z on f. on (next_fits l s p z))

  -- Two batches are one with the room of both, where the first used up its own.
  abbrev Joins : ℕ → ReaderPlace → ℕ → Batch → Type 0
  Joins b p a first =
      length first.units ≡ a →
      ((batch_of l s p (a + b)).units ≡ first.units ++ (batch_of l s first.place b).units)
      × ((batch_of l s p (a + b)).place ≡ (batch_of l s first.place b).place)

  pub joined : (p : ReaderPlace) (a b : ℕ) → Joins b p a (batch_of l s p a)
  joined p a b =
      by_room l s (Joins b) (λ q n h e. rw (zero-add b) (refl, refl)) (λ q f e. rw (zero-add b) (refl, refl))
      (λ q room h e. absurd (omega arith))
      (λ q room z on e.
      let both = on (omega arith) in
      rw (suc-add room b, goes_on l s q (room + b) z) (ap (λ us. (next_of l s q).handed ∷ us) both.0, both.1)) p a

  pub told_next : (p : ReaderPlace) (room more : ℕ) → length (batch_of l s p room).units < room →
      let q = (batch_of l s p room).place in
      (batch_of l s q (suc more) ≡ no_units (next_of l s q).number (next_of l s q).offset q) × ((next_of l s q).number ≡ 0 → ⊥)
  told_next p room more h = let some = ends p room h in (stops l s (batch_of l s p room).place more some, some)
    where
      ends : (p : ReaderPlace) (room : ℕ) → length (batch_of l s p room).units < room → (next_of l s (batch_of l s p room).place).number ≡ 0 → ⊥
      ends =
          by_room l s (λ p room b. length b.units < room → (next_of l s b.place).number ≡ 0 → ⊥) (λ p n h less. absurd (omega arith))
          (λ p f less. absurd (omega arith)) (λ p room some less. some) (λ p room z on less. on (omega arith))
