-- Where there is a slot for it, the units then open are the new one and those that were.
use Rattle.std.proofs.Common.{ℕ, zero, suc, ◌≤◌, ◌≡◌, refl, Bool, true, false, cond, List, [], ◌∷◌, ◌++◌, arith, eqb-true, ne_eqb, eqb}
use Rattle.std.proofs.lemmas.Bool.{eqb-false}
use Rattle.std.specs.Prelude.{Some}
use Rattle.cdf_reader_spec.specs.Slots.{around_of, held_of}
use Rattle.cdf_builder_spec.specs.Place.{BuilderPlace}
use Rattle.cdf_builder_spec.specs.Slots.{units, placed}
use Rattle.cdf_builder_spec.specs.declared.Begun.{Begun}
use Rattle.cdf_builder_spec.specs.declared.Parts.{Parts}
use Rattle.cdf_builder_enter.specs.Entering.{entered_in, entered_by}

-- `top` is the innermost of the units left open, which has had the new one; `first` the new one's first state, if it admits others.
module _ (p : Parts) (count : ℕ) (top : Begun) (written : ℕ) where
  abbrev due : List Begun → ℕ → BuilderPlace
  due inner count = record { written = written; units = inner ++ units count top p.units.o1 p.units.o2 p.units.o3 }

  opened : (state : ℕ) → (1 ≤ count) × (count ≤ 3) →
      placed (entered_in p count top written (Some state)) ≡ due (record { state = state; start = p.written } ∷ []) count
  unfolding around_of held_of
  opened state slot = one (eqb count 1) refl
    where
      third : (count ≡ 1 → ⊥) → (count ≡ 2 → ⊥) → count ≡ 3
      third a b = omega (arith, slot.0, slot.1, a, b)

      two : (b : Bool) → eqb count 1 ≡ false → eqb count 2 ≡ b →
          placed (entered_in p count top written (Some state)) ≡ due (record { state = state; start = p.written } ∷ []) count
      two true a c = rw (eqb-true count 2 c)
      two false a c = rw (third (eqb-false count 1 a) (eqb-false count 2 c))

      one : (b : Bool) → eqb count 1 ≡ b →
          placed (entered_in p count top written (Some state)) ≡ due (record { state = state; start = p.written } ∷ []) count
      one true a = rw (eqb-true count 1 a)
      one false a = two (eqb count 2) a refl

  pub entered_is : (first : ℕ) → ((first ≡ 0 → ⊥) → (1 ≤ count) × (count ≤ 3)) →
      placed (entered_by p count top written first) ≡ due (cond (eqb first 0) [] (record { state = first; start = p.written } ∷ [])) count
  entered_is zero slot = refl
  entered_is (suc k) slot =
      let some : suc k ≡ 0 → ⊥ = λ z. absurd (omega arith) in
      rw (ne_eqb (suc k) 0 some) (opened (suc k) (slot some))
