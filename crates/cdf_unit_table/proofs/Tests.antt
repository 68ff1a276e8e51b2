-- Tests that antt computes, and what they tell: at each element of a list, and at each number below a bound.
use Rattle.std.proofs.Common.{ℕ, zero, suc, ◌/◌, ◌%◌, ◌^◌, ◌<◌, ◌≤◌, ◌≡◌, refl, sym, subst, Bool, true, false, ◌&&◌, ◌||◌, List, [], ◌∷◌, ◌⊎◌, inl}
use Rattle.std.proofs.Common.{inr, arith, not-suc-le-zero, ltb-true, ltb-false, eqb-true, ne_eqb, le-ltb, T, ltb, eqb, ltb→lt}
use Rattle.std.proofs.lemmas.Bool.{eqb-false}
use mathlib.Core.Bool.{beq}
use lib.Bits.{bit_and}
use Rattle.cdf_unit_table.specs.Ids.{member}

pub and_left : (a b : Bool) → T (a && b) → T a
and_left true b t = tt
and_left false b t = absurd t

pub and_right : (a b : Bool) → T (a && b) → T b
and_right true b t = t
and_right false b t = absurd t

pub or_else : (a b : Bool) → T (a || b) → T a ⊎ T b
or_else true b t = inl tt
or_else false b t = inr t

pub is_true : (b : Bool) → T b → b ≡ true
is_true true t = refl
is_true false t = absurd t

abbrev pub all : (ℕ → Bool) → List ℕ → Bool
all f [] = true
all f (x ∷ xs) = f x && all f xs

abbrev pub below : (ℕ → Bool) → ℕ → Bool
below f zero = true
below f (suc n) = f n && below f n

pub below_at : (f : ℕ → Bool) (n : ℕ) → T (below f n) → (k : ℕ) → k < n → T (f k)
below_at f zero t k h = absurd (not-suc-le-zero h)
below_at f (suc n) t k h = go (eqb k n) refl (below_at f n (and_right (f n) (below f n) t) k)
  where
    go : (b : Bool) → eqb k n ≡ b → (k < n → T (f k)) → T (f k)
    go true e less = subst (λ (m : ℕ). T (f m)) (sym (eqb-true k n e)) (and_left (f n) (below f n) t)
    go false e less = less (omega (arith, eqb-false k n e))

-- two tests agree everywhere: below a bound by computation, and from there on by their laws
pub agree : (f g : ℕ → Bool) (n : ℕ) → T (below (λ k. beq (f k) (g k)) n) → ((k : ℕ) → n ≤ k → f k ≡ g k) →
    (k : ℕ) → f k ≡ g k
agree f g n t beyond k = go (ltb k n) refl
  where
    same : (a b : Bool) → T (beq a b) → a ≡ b
    same true true e = refl
    same true false e = absurd e
    same false true e = absurd e
    same false false e = refl

    go : (b : Bool) → ltb k n ≡ b → f k ≡ g k
    go true e = same (f k) (g k) (below_at (λ j. beq (f j) (g j)) n t k (ltb-true k n e))
    go false e = beyond k (ltb-false k n e)

-- a number past all of a list's is not in it
pub not_member : (xs : List ℕ) (n : ℕ) → T (all (λ x. ltb x n) xs) → (k : ℕ) → n ≤ k → member k xs ≡ false
unfolding member
not_member [] n t k h = refl
not_member (x ∷ xs) n t k h =
    rw (ne_eqb k x (λ e. absurd (omega (arith, ltb→lt x n (and_left (ltb x n) (all (λ y. ltb y n) xs) t)))))
    (not_member xs n (and_right (ltb x n) (all (λ y. ltb y n) xs) t) k h)

-- a test by a bit of a word for each number below 32
pub by_bit : (word : ℕ) (g : ℕ → Bool) → T (below (λ k. beq (ltb k 32 && eqb (bit_and (word / 2 ^ (k % 32)) 1) 1) (g k)) 32) →
    ((k : ℕ) → 32 ≤ k → g k ≡ false) → (k : ℕ) → (ltb k 32 && eqb (bit_and (word / 2 ^ (k % 32)) 1) 1) ≡ g k
by_bit word g t beyond =
    agree (λ k. ltb k 32 && eqb (bit_and (word / 2 ^ (k % 32)) 1) 1) g 32 t (λ k h. rw (le-ltb k 32 h, beyond k h))
