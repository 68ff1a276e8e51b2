-- The open units that a struct holds, tested from the outermost inwards.
use Rattle.std.proofs.Common.{ℕ, zero, suc, ◌+◌, ◌≤◌, ◌<◌, ◌≡◌, refl, sym, Bool, true, false, List, ◌∷◌, arith}
use Rattle.std.proofs.lemmas.Bool.{lt-leb}
use mathlib.Core.Bool.{and-false, and-true}
use native.Mathlib.Decide.{dec_lt}
use Rattle.cdf_unit_prefix.specs.Layout.{Layout, prefix_of}
use Rattle.cdf_unit_list.specs.declared.Open.{Open}
use Rattle.cdf_reader_spec.specs.Slots.{slot, around, open_units}
use Rattle.cdf_reader_spec.specs.Tests.{spans, under, chain}

module _ (l : Layout) (n : ℕ) (top o1 o2 o3 : Open) where
  -- The units from a level outwards.
  abbrev pub from : ℕ → List Open
  from k = around o1 o2 o3 k

  -- What fails from a level outwards fails with one more unit inside it.
  wider : (x : Open) (k : ℕ) → chain l n (from (suc k)) ≡ false → chain l n (x ∷ from (suc k)) ≡ false
  unfolding chain around
  wider x k e = rw (e, and-false)

  fails_in : (k j : ℕ) → k ≤ j → chain l n (from (suc k)) ≡ false → chain l n (from (suc j)) ≡ false
  unfolding around
  fails_in k zero h e = let same : k ≡ 0 = omega arith in rw same at e
  fails_in k (suc j) h e = go (dec_lt k (suc j)) (fails_in k j)
    where
      go : Dec (k < suc j) → (k ≤ j → chain l n (from (suc k)) ≡ false → chain l n (from (suc j)) ≡ false) →
          chain l n (from (suc (suc j))) ≡ false
      go (yes p) below = wider (slot o1 o2 o3 (suc (suc j))) j (below (omega arith) e)
      go (no p) below = let same : k ≡ suc j = omega arith in rw same at e

  -- So it fails for every count that reaches further in, and for none.
  pub fails : (k count : ℕ) → chain l n (from (suc k)) ≡ false → (count ≤ suc k → count ≡ 0) →
      false ≡ chain l n (open_units count top o1 o2 o3)
  unfolding open_units chain
  fails k zero e far = refl
  fails k (suc zero) e far = absurd (omega (arith, far (omega arith)))
  fails k (suc (suc j)) e far = sym (wider top j (fails_in k j (go (dec_lt k (suc j))) e))
    where
      go : Dec (k < suc j) → k ≤ j
      go (yes p) = omega arith
      go (no p) = absurd (omega (arith, far (omega arith)))

  -- There is no room for a fifth unit: one of zeros does not lie in another.
  pub no_fifth : chain l n (from 4) ≡ false
  unfolding chain around
  no_fifth = rw (lt-leb (o3.start + prefix_of l) 0 (omega arith)) (simp and-false)

-- The returns of the code, in its order: `one` is that the outermost of several units holds, `two` and `three` those inside it.
module _ (l : Layout) (n count : ℕ) (top o1 o2 o3 : Open) where
  abbrev Chain : Bool
  Chain = chain l n (open_units count top o1 o2 o3)

  pub single : count ≡ 1 → spans n top ≡ Chain
  unfolding chain around open_units
  single e = rw e

  pub first_not : (count ≡ 1 → ⊥) → spans n o1 ≡ false → false ≡ Chain
  unfolding chain around
  first_not a e = fails l n top o1 o2 o3 0 count e (λ h. omega arith)

  pub too_many : (count ≡ 1 → ⊥) → (count ≡ 2 → ⊥) → (count ≡ 3 → ⊥) → (count ≡ 4 → ⊥) → false ≡ Chain
  too_many a b c d = fails l n top o1 o2 o3 3 count (no_fifth l n top o1 o2 o3) (λ h. omega arith)

  module _ (one : spans n o1 ≡ true) where
    pub double : count ≡ 2 → under l o1 top ≡ Chain
    unfolding chain around open_units
    double e = rw (e, one, and-true)

    pub second_not : (count ≡ 1 → ⊥) → (count ≡ 2 → ⊥) → under l o1 o2 ≡ false → false ≡ Chain
    unfolding chain around
    second_not a b e = fails l n top o1 o2 o3 1 count (rw e) (λ h. omega arith)

    module _ (two : under l o1 o2 ≡ true) where
      pub triple : count ≡ 3 → under l o2 top ≡ Chain
      unfolding chain around open_units
      triple e = rw (e, two, one, and-true)

      pub third_not : (count ≡ 1 → ⊥) → (count ≡ 2 → ⊥) → (count ≡ 3 → ⊥) → under l o2 o3 ≡ false → false ≡ Chain
      unfolding chain around
      third_not a b c e = fails l n top o1 o2 o3 2 count (rw e) (λ h. omega arith)

      pub fourfold : under l o2 o3 ≡ true → count ≡ 4 → under l o3 top ≡ Chain
      unfolding chain around open_units
      fourfold three e = rw (e, three, two, one, and-true)
