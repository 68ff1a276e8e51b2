-- A sum that is compared is a difference that is compared.
use Rattle.std.proofs.Common.{ℕ, ◌+◌, ◌-◌, ◌≤◌, ◌≡◌, refl, Bool, true, false, arith, leb-true, leb-false, le-leb, leb}
use Rattle.std.proofs.lemmas.Bool.{lt-leb}

pub taken_off : (a b p : ℕ) → p ≤ b → leb a (b - p) ≡ leb (a + p) b
taken_off a b p h = go (leb (a + p) b) refl
  where
    go : (x : Bool) → leb (a + p) b ≡ x → leb a (b - p) ≡ x
    go true e = le-leb a (b - p) (omega (arith, leb-true (a + p) b e))
    go false e = lt-leb a (b - p) (omega (arith, leb-false (a + p) b e))
