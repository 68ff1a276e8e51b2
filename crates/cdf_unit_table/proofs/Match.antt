-- What a `match` on a number tells in its arms, against tests that antt computes at the arms' keys.
use Rattle.std.proofs.Common.{ℕ, ◌≤◌, ◌≡◌, sym, refl, subst, ◌∙◌, Bool, true, false, ◌||◌, List, [], ◌∷◌, inl, inr, ltb-true, ltb-false, T, eqb, ltb}
use Rattle.std.proofs.Common.{eqb→eq}
use types.Run.{OneOf}
use Rattle.cdf_unit_table.specs.Ids.{member}
use Rattle.cdf_unit_table.proofs.Tests.{or_else, below, below_at}

-- what the rest of a match knows: the number is none of the arms' keys, the last arm's first
abbrev pub Rest : List (List ℕ) → ℕ → Type 0
Rest [] x = Unit {0}
Rest (ks ∷ kss) x = Rest kss x × (OneOf ks x → ⊥)

abbrev pub Each : (ℕ → Type 0) → List ℕ → Type 0
Each P [] = Unit {0}
Each P (k ∷ ks) = P k × Each P ks

-- what holds at each key holds of a number that is one of them
pub each : (P : ℕ → Type 0) (ks : List ℕ) → Each P ks → (x : ℕ) → OneOf ks x → P x
each P [] h x o = absurd o
each P (k ∷ []) h x o = subst P (sym o) h.0
each P (k ∷ j ∷ ks) h x (inl e) = subst P (sym e) h.0
each P (k ∷ j ∷ ks) h x (inr o) = each P (j ∷ ks) h.1 x o

-- a number that is in a list is one of its numbers
pub among : (ks : List ℕ) (k x : ℕ) → T (member k ks) → x ≡ k → OneOf ks x
unfolding member
among [] k x t e = t
among (j ∷ []) k x t e = e ∙ elim (or_else (eqb k j) false t) [ inl a ↦ eqb→eq k j a | inr b ↦ absurd b ]
among (j ∷ i ∷ ks) k x t e =
    elim (or_else (eqb k j) (member k (i ∷ ks)) t)
    [ inl a ↦ inl (e ∙ eqb→eq k j a) | inr b ↦ inr (among (i ∷ ks) k x b e) ]

abbrev pub member_of : List (List ℕ) → ℕ → Bool
member_of [] k = false
member_of (ks ∷ kss) k = member k ks || member_of kss k

pub differs : (kss : List (List ℕ)) (k x : ℕ) → T (member_of kss k) → Rest kss x → x ≡ k → ⊥
differs [] k x t r e = t
differs (ks ∷ kss) k x t r e =
    elim (or_else (member k ks) (member_of kss k) t)
    [ inl a ↦ r.1 (among ks k x a e) | inr b ↦ differs kss k x b r.0 e ]

-- a test that each number passes, unless it is a key: below a bound by computation, and from there on by a law
pub else_at : (f : ℕ → Bool) (kss : List (List ℕ)) (n : ℕ) → T (below (λ k. member_of kss k || f k) n) →
    ((k : ℕ) → n ≤ k → T (f k)) → (x : ℕ) → Rest kss x → T (f x)
else_at f kss n t beyond x rest = go (ltb x n) refl
  where
    go : (b : Bool) → ltb x n ≡ b → T (f x)
    go true e =
        elim (or_else (member_of kss x) (f x) (below_at (λ k. member_of kss k || f k) n t x (ltb-true x n e)))
        [ inl a ↦ absurd (differs kss x x a rest refl) | inr b ↦ b ]
    go false e = beyond x (ltb-false x n e)
