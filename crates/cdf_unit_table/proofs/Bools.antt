-- What a passed or failed test tells.
use Rattle.std.proofs.Common.{◌≡◌, refl, Bool, false, true, cond, ◌&&◌, ◌||◌, ◌⊎◌, inl, inr, ℕ, arith}

-- Where two constructors would be equal `cc` finds 0 ≡ 1, and then anything follows.
pub clash : {A : Type 0} → ◌≡◌ {A = ℕ} 0 1 → A
clash z = absurd (omega arith)

pub both : (a b : Bool) → (a && b) ≡ true → (a ≡ true) × (b ≡ true)
both true b e = (refl, e)
both false b e = clash cc

pub either : (a b : Bool) → (a || b) ≡ true → (a ≡ true) ⊎ (b ≡ true)
either true b e = inl refl
either false b e = inr e

-- Past a test that would have given x.
pub past : {A : Type 0} (b : Bool) (x y : A) {z : A} → (x ≡ z → ⊥) → cond b x y ≡ z → (b ≡ false) × (y ≡ z)
past true x y other e = absurd (other e)
past false x y other e = (refl, e)

-- What holds of each branch where the test picks it holds of the one that it picks.
pub of_cond : {A : Type 0} (P : A → Type 0) (b : Bool) (x y : A) → (b ≡ true → P x) → (b ≡ false → P y) → P (cond b x y)
of_cond P true x y p q = p refl
of_cond P false x y p q = q refl
