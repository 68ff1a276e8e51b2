-- States as the code tells them: some where the definition tells one, and none where it tells 0.
use Rattle.std.specs.Prelude.{ℕ, zero, suc, Bool, true, false, not, cond, eqb, ◌≡◌, Option, Some, None, IsSome, is_some}
use Rattle.std.specs.Option.{unwrap_or}
use Rattle.std.proofs.Common.{rules, refl, sym, ap, subst, arith, ◌∙◌, ne_eqb}
use Rattle.cdf_unit_table.specs.States.{some_state}
use Rattle.cdf_unit_table.proofs.Bools.{clash}

-- None is told for 0,
pub none_told : (n : ℕ) → some_state n ≡ None → n ≡ 0
none_told zero e = refl
none_told (suc n) e = clash cc

-- and some state for itself, which is not 0.
pub some_told : (n k : ℕ) → some_state n ≡ Some k → (k ≡ n) × (k ≡ 0 → ⊥)
some_told zero k e = clash cc
some_told (suc n) k e = let same : k ≡ suc n = cc in (same, λ z. absurd (omega arith))

-- A test tells a state, or none.
pub told_if : (b : Bool) (n : ℕ) → cond b (Some (suc n)) None ≡ some_state (cond b (suc n) 0)
told_if true n = refl
told_if false n = refl

-- A state that is not 0 is told.
pub told_some : (n : ℕ) → (n ≡ 0 → ⊥) → IsSome (some_state n)
told_some zero some = absurd (some refl)
told_some (suc n) some = search rules

-- The number of what is told, 0 for none.
pub told_or : (n : ℕ) {o : Option ℕ} {k : ℕ} → o ≡ some_state n → k ≡ unwrap_or o 0 → k ≡ n
told_or n e q = q ∙ ap (λ o. unwrap_or o 0) e ∙ or n
  where
    or : (n : ℕ) → unwrap_or (some_state n) 0 ≡ n
    or zero = refl
    or (suc n) = refl

-- Whether one is told.
pub told_none : (n : ℕ) {o : Option ℕ} → o ≡ some_state n → is_some o ≡ false → n ≡ 0
told_none zero e t = refl
told_none (suc n) e t = let clashing : true ≡ false = subst (λ o. is_some o ≡ false) e t in clash cc

pub told_one : (n : ℕ) {o : Option ℕ} → o ≡ some_state n → is_some o ≡ true → n ≡ 0 → ⊥
told_one zero e t z = let clashing : false ≡ true = subst (λ o. is_some o ≡ true) e t in clash cc
told_one (suc n) e t z = absurd (omega arith)

pub told_is : (n : ℕ) → is_some (some_state n) ≡ not (eqb n 0)
told_is zero = refl
told_is (suc n) = rw (ne_eqb (suc n) 0 (λ z. absurd (omega arith)))
