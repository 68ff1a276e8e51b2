-- What parts of a list are, in the definitions' words.
use Rattle.std.proofs.Common.{ℕ, zero, suc, ◌≤◌, ◌+◌, ◌-◌, ◌≡◌, sym, List, [], ◌∷◌, arith, length, take, drop, length-take, length-drop, take_all}
use Rattle.std.proofs.Common.{take-take, drop-drop}
use lib.Seq.{take-nil}

-- of &s[1..1 + n]
pub minus_one : (n : ℕ) → 1 + n - 1 ≡ n
minus_one n = omega arith

-- of &s[at..at + n]
pub minus_plus : (n at : ℕ) → at + n - at ≡ n
minus_plus n at = omega arith

-- of &s[at..]
pub rest : (at : ℕ) (s : List ℕ) → take (length s - at) (drop at s) ≡ drop at s
rest at s = take_all (length s - at) (drop at s) (simp length-drop (omega arith))

pub drop-take : (n k : ℕ) (s : List ℕ) → drop n (take k s) ≡ take (k - n) (drop n s)
drop-take zero k s = let e : k - 0 ≡ k = omega arith in rw e
drop-take (suc n) zero s = let e : 0 - suc n ≡ 0 = omega arith in rw e
drop-take (suc n) (suc k) [] = sym (take-nil (suc k - suc n))
drop-take (suc n) (suc k) (b ∷ s) = let e : suc k - suc n ≡ k - n = omega arith in rw e (drop-take n k s)

-- t is the len bytes of s from base on.
pub record Part (s : List ℕ) (base len : ℕ) (t : List ℕ) : Type 0 where
  pub long : length t ≡ len
  pub is : t ≡ take len (drop base s)

module _ (s : List ℕ) (base len : ℕ) (t : List ℕ) (p : Part s base len t) where
  -- what is left of it
  pub left_of : (at : ℕ) → take (base + len - (base + at)) (drop (base + at) s) ≡ drop at t
  left_of at =
      let e : base + len - (base + at) ≡ len - at = omega arith in
      rw (e, ← drop-drop at base s, ← drop-take at len (drop base s), ← p.is)

  -- a part of it
  pub part_of : (at k : ℕ) → k ≤ length (drop at t) → Part s (base + at) k (take k (drop at t))
  part_of at k h =
      let few : k ≤ base + len - (base + at) = omega (arith, p.long, length-drop at t) in
      record { long = simp length-take (omega arith); is = rw (← left_of at, take-take) }
