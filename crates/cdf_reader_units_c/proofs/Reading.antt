-- Batches one behind the other, where each tells the front of a list of units.
use Rattle.std.proofs.Common.{ℕ, zero, suc, ◌+◌, ◌<◌, ◌≡◌, refl, sym, ap, ◌∙◌, Bool, true, false, List, [], arith, leb-true, leb-false, leb, length}
use Rattle.std.proofs.Common.{take, drop, drop_of_length-le, take-add, drop_at, length-take-le}
use lib.Seq.{take-nil}
use Rattle.std.proofs.lemmas.List.{nil_from_length}
use Rattle.cdf_unit_prefix.specs.Layout.{Layout}
use Rattle.cdf_unit_list.specs.declared.Ranked.{Ranked}
use Rattle.cdf_reader_spec.specs.Place.{ReaderPlace}
use Rattle.cdf_reader_units_spec.specs.Batch.{Batch, batch_of}
use Rattle.cdf_reader_units_spec.proofs.Proved.{proved as batch}

module _ (l : Layout) (s : List ℕ) (p : ReaderPlace) (units : List Ranked) (all : (room : ℕ) → (batch_of l s p room).units ≡ take room units) where
  -- The first used up its room.
  full : (a b : ℕ) → length (batch_of l s p a).units ≡ a → (batch_of l s (batch_of l s p a).place b).units ≡ take b (drop a units)
  full a b e =
      let before = (batch_of l s p a).units in
      let next = (batch_of l s (batch_of l s p a).place b).units in
      sym (drop_at before next a e)
      ∙ ap (drop a) (sym (batch.joined l s p a b e).0 ∙ all (a + b) ∙ take-add a b units)
      ∙ drop_at (take a units) (take b (drop a units)) a (ap length (sym (all a)) ∙ e)

  -- It did not: no unit is left.
  none : (a b : ℕ) → length (batch_of l s p a).units < a → (batch_of l s (batch_of l s p a).place b).units ≡ []
  none a zero h = nil_from_length _ (omega (arith, batch.within l s (batch_of l s p a).place zero))
  none a (suc b) h = ap (λ (x : Batch). x.units) (batch.told_next l s p a b h).0

  over : (a : ℕ) → length (batch_of l s p a).units < a → drop a units ≡ []
  over a h = go (leb a (length units)) refl
    where
      go : (b : Bool) → leb a (length units) ≡ b → drop a units ≡ []
      go true e = absurd (omega (arith, ap length (all a), length-take-le a units (leb-true a (length units) e)))
      go false e = drop_of_length-le units {i = a} (omega (arith, leb-false a (length units) e))

  pub goes_on : (a b : ℕ) → (batch_of l s (batch_of l s p a).place b).units ≡ take b (drop a units)
  goes_on a b = go (leb a (length (batch_of l s p a).units)) refl
    where
      go : (t : Bool) → leb a (length (batch_of l s p a).units) ≡ t → (batch_of l s (batch_of l s p a).place b).units ≡ take b (drop a units)
      go true e = full a b (omega (arith, leb-true a (length (batch_of l s p a).units) e, batch.within l s p a))
      go false e =
          let few : length (batch_of l s p a).units < a = omega (arith, leb-false a (length (batch_of l s p a).units) e) in
          none a b few ∙ sym (take-nil b) ∙ ap (take b) (sym (over a few))
