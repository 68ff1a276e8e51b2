-- What a batch is, by its room and by NEXT alone.
use Rattle.std.proofs.Common.{ℕ, zero, suc, ◌≡◌, refl, sym, ap, ◌∙◌, Bool, true, false, not, cond, List, arith, eq-eqb, ne_eqb, eqb-true, eqb, length}
use Rattle.std.proofs.lemmas.Bool.{eqb-false}
use Rattle.cdf_unit_prefix.specs.Layout.{Layout}
use Rattle.cdf_reader_spec.specs.Place.{ReaderPlace, is_empty, fits}
use Rattle.cdf_reader_spec.specs.Calls.{next_of}
use Rattle.cdf_reader_spec.proofs.Fitting.{fitting}
use Rattle.cdf_reader_spec.proofs.Replying.{next_tests}
use Rattle.cdf_reader_runs.proofs.Replies.{next_fits}
use Rattle.cdf_reader_units_spec.specs.Batch.{Batch, no_units, with_unit, nexts, batch_of}

module _ (l : Layout) (s : List ℕ) where
  -- The definitions by their equations.
  pub nexts_none : (p : ReaderPlace) → nexts l s p zero ≡ no_units 0 0 p
  unfolding nexts
  nexts_none p = refl

  nexts_is : (p : ReaderPlace) (room : ℕ) →
      nexts l s p (suc room)
      ≡ cond (eqb (next_of l s p).number 0) (with_unit (next_of l s p).handed (nexts l s (next_of l s p).place room))
      (no_units (next_of l s p).number (next_of l s p).offset p)
  unfolding nexts
  nexts_is p room = refl

  pub nexts_on : (p : ReaderPlace) (room : ℕ) → (next_of l s p).number ≡ 0 →
      nexts l s p (suc room) ≡ with_unit (next_of l s p).handed (nexts l s (next_of l s p).place room)
  nexts_on p room z = rw (nexts_is p room, eq-eqb (next_of l s p).number 0 z)

  pub nexts_stop : (p : ReaderPlace) (room : ℕ) → ((next_of l s p).number ≡ 0 → ⊥) →
      nexts l s p (suc room) ≡ no_units (next_of l s p).number (next_of l s p).offset p
  nexts_stop p room some = rw (nexts_is p room, ne_eqb (next_of l s p).number 0 some)

  batch_tests : (p : ReaderPlace) (room : ℕ) →
      batch_of l s p room
      ≡ cond (is_empty p) (no_units 11 0 p) (cond (not (fits l (length s) p)) (no_units 2 0 p) (nexts l s p room))
  unfolding batch_of
  batch_tests p room = refl

  pub empty : (p : ReaderPlace) (room : ℕ) → is_empty p ≡ true → batch_of l s p room ≡ no_units 11 0 p
  empty p room e = rw (batch_tests p room, e)

  pub unfit : (p : ReaderPlace) (room : ℕ) → is_empty p ≡ false → fits l (length s) p ≡ false → batch_of l s p room ≡ no_units 2 0 p
  unfit p room e f = rw (batch_tests p room, e, f)

  -- A place that fits is not empty.
  pub some_open : (p : ReaderPlace) → fits l (length s) p ≡ true → is_empty p ≡ false
  unfolding is_empty
  some_open p f = ne_eqb (length p.units) 0 (λ z. omega (arith, (fitting l (length s) p f).some))

  pub batch_is : (p : ReaderPlace) (room : ℕ) → fits l (length s) p ≡ true → batch_of l s p room ≡ nexts l s p room
  batch_is p room f = rw (batch_tests p room, some_open p f, f)

  -- Where NEXT hands out a unit, the place fits.
  pub fits_before : (p : ReaderPlace) → (next_of l s p).number ≡ 0 → fits l (length s) p ≡ true
  fits_before p z = go (is_empty p) (fits l (length s) p) refl refl
    where
      go : (e f : Bool) → is_empty p ≡ e → fits l (length s) p ≡ f → f ≡ true
      go e true p1 p2 = refl
      go true false p1 p2 = absurd (let n : (next_of l s p).number ≡ 11 = rw (next_tests l s p, p1) in omega arith)
      go false false p1 p2 = absurd (let n : (next_of l s p).number ≡ 2 = rw (next_tests l s p, p1, p2) in omega arith)

  pub no_room : (p : ReaderPlace) → fits l (length s) p ≡ true → batch_of l s p zero ≡ no_units 0 0 p
  no_room p f = batch_is p zero f ∙ nexts_none p

  pub stops : (p : ReaderPlace) (room : ℕ) → ((next_of l s p).number ≡ 0 → ⊥) →
      batch_of l s p (suc room) ≡ no_units (next_of l s p).number (next_of l s p).offset p
  stops p room some = go (is_empty p) (fits l (length s) p) refl refl
    where
      go : (e f : Bool) → is_empty p ≡ e → fits l (length s) p ≡ f →
          batch_of l s p (suc room) ≡ no_units (next_of l s p).number (next_of l s p).offset p
      go e true p1 p2 = batch_is p (suc room) p2 ∙ nexts_stop p room some
      go true false p1 p2 = empty p (suc room) p1 ∙ rw (next_tests l s p, p1)
      go false false p1 p2 = unfit p (suc room) p1 p2 ∙ rw (next_tests l s p, p1, p2)

  pub goes_on : (p : ReaderPlace) (room : ℕ) → (next_of l s p).number ≡ 0 →
      batch_of l s p (suc room) ≡ with_unit (next_of l s p).handed (batch_of l s (next_of l s p).place room)
  goes_on p room z =
      batch_is p (suc room) (fits_before p z) ∙ nexts_on p room z
      ∙ ap (with_unit (next_of l s p).handed) (sym (batch_is (next_of l s p).place room (next_fits l s p z)))

  -- What holds of a batch whichever way it goes: refused or nothing with no room, stopped at once, or gone on with.
  pub by_room : (P : ReaderPlace → ℕ → Batch → Type 0) → ((p : ReaderPlace) (n : ℕ) → (n ≡ 0 → ⊥) → P p zero (no_units n 0 p)) →
      ((p : ReaderPlace) → fits l (length s) p ≡ true → P p zero (no_units 0 0 p)) →
      ((p : ReaderPlace) (room : ℕ) → ((next_of l s p).number ≡ 0 → ⊥) → P p (suc room) (no_units (next_of l s p).number (next_of l s p).offset p)) →
      ((p : ReaderPlace) (room : ℕ) → (next_of l s p).number ≡ 0 → P (next_of l s p).place room (batch_of l s (next_of l s p).place room) →
      P p (suc room) (with_unit (next_of l s p).handed (batch_of l s (next_of l s p).place room))) →
      (p : ReaderPlace) (room : ℕ) → P p room (batch_of l s p room)
  by_room P other none stop on p zero = go (is_empty p) (fits l (length s) p) refl refl
    where
      go : (e f : Bool) → is_empty p ≡ e → fits l (length s) p ≡ f → P p zero (batch_of l s p zero)
      go e true p1 p2 = rw (no_room p p2) (none p p2)
      go true false p1 p2 = rw (empty p zero p1) (other p 11 (λ z. omega arith))
      go false false p1 p2 = rw (unfit p zero p1 p2) (other p 2 (λ z. omega arith))
  by_room P other none stop on p (suc room) =
      go (eqb (next_of l s p).number 0) refl (by_room P other none stop on (next_of l s p).place room)
    where
      go : (b : Bool) → eqb (next_of l s p).number 0 ≡ b → P (next_of l s p).place room (batch_of l s (next_of l s p).place room) →
          P p (suc room) (batch_of l s p (suc room))
      go true e rest = let z = eqb-true (next_of l s p).number 0 e in rw (goes_on p room z) (on p room z rest)
      go false e rest = let some = eqb-false (next_of l s p).number 0 e in rw (stops p room some) (stop p room some)
