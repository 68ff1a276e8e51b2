-- Tables over the numbers that are the same: below a bound by one computation, and from there on by their laws.
use Rattle.std.proofs.Common.{ℕ, zero, suc, ◌<◌, ◌≤◌, ◌≡◌, refl, Bool, true, false, List, [], ◌∷◌, arith, not-suc-le-zero, ltb-true, ltb-false}
use Rattle.std.proofs.Common.{eqb-true, eqb, ltb}
use Rattle.std.proofs.lemmas.Bool.{eqb-false}

module _ {A : Type 0} where
  -- the entries below a bound, the last first
  abbrev pub up_to : (ℕ → A) → ℕ → List A
  up_to f zero = []
  up_to f (suc n) = f n ∷ up_to f n

  pub same_below : (f g : ℕ → A) (n : ℕ) → up_to f n ≡ up_to g n → (k : ℕ) → k < n → f k ≡ g k
  same_below f g zero e k h = absurd (not-suc-le-zero h)
  same_below f g (suc n) e k h = go (eqb k n) refl (same_below f g n (cc) k)
    where
      go : (b : Bool) → eqb k n ≡ b → (k < n → f k ≡ g k) → f k ≡ g k
      go true q less = let last : f n ≡ g n = cc in rw (eqb-true k n q) last
      go false q less = less (omega (arith, eqb-false k n q))

  pub same : (f g : ℕ → A) (n : ℕ) → up_to f n ≡ up_to g n → ((k : ℕ) → n ≤ k → f k ≡ g k) → (k : ℕ) → f k ≡ g k
  same f g n e beyond k = go (ltb k n) refl
    where
      go : (b : Bool) → ltb k n ≡ b → f k ≡ g k
      go true q = same_below f g n e k (ltb-true k n q)
      go false q = beyond k (ltb-false k n q)
