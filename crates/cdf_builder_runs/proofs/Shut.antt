-- Open units that are complete and too low to admit what is asked for: a request passes them and joins the unit around them.
use Rattle.std.proofs.Common.{ℕ, ◌<◌, ◌≤◌, ◌≡◌, refl, Bool, true, false, List, [], ◌∷◌, ◌++◌, append-nil, arith, eqb-true, ne_eqb, eqb, length}
use Rattle.std.proofs.lemmas.Bool.{eqb-false}
use Rattle.cdf_unit_table.specs.States.{admit, complete, unit_of}
use Rattle.cdf_unit_table.specs.Heights.{height}
use Rattle.cdf_unit_table.proofs.Heights.{level, admit_lower}
use Rattle.cdf_builder_spec.specs.declared.Begun.{Begun}
use Rattle.cdf_builder_spec.specs.Requests.{joining, ending, completed, join_number}
use Rattle.cdf_builder_spec.proofs.Joining.{NoneAdmits, joins_over}

-- These units are complete, and what each admits is lower than n.
abbrev pub Shut : ℕ → List Begun → Type 0
Shut n [] = record {}
Shut n (o ∷ os) = (complete o.state ≡ true) × (level (unit_of o.state) < n) × Shut n os

pub shut_append : (n : ℕ) (xs ys : List Begun) → Shut n xs → Shut n ys → Shut n (xs ++ ys)
shut_append n [] ys a b = b
shut_append n (x ∷ xs) ys a b = (a.0, a.1, shut_append n xs ys a.2 b)

pub shut_below : (m n : ℕ) (xs : List Begun) → m ≤ n → Shut m xs → Shut n xs
shut_below m n [] h a = record {}
shut_below m n (x ∷ xs) h a = (a.0, omega (arith, a.1), shut_below m n xs h a.2)

-- All units are complete where these and those around them are.
pub shut_completed : (n : ℕ) (xs os : List Begun) → Shut n xs → completed os ≡ true → completed (xs ++ os) ≡ true
unfolding completed
shut_completed n [] os a e = e
shut_completed n (x ∷ xs) os a e = rw a.0 (shut_completed n xs os a.2 e)

-- A unit that admits only what is lower does not admit this id.
low_admits : (state id : ℕ) → level (unit_of state) < height id → admit state id ≡ 0
low_admits state id low = go (eqb (admit state id) 0) refl
  where
    go : (b : Bool) → eqb (admit state id) 0 ≡ b → admit state id ≡ 0
    go true e = eqb-true (admit state id) 0 e
    go false e = absurd (omega (arith, (admit_lower state id (eqb-false (admit state id) 0 e)).alike))

none_admits : (id : ℕ) (xs : List Begun) → Shut (height id) xs → NoneAdmits id xs
none_admits id [] a = record {}
none_admits id (x ∷ xs) a = (low_admits x.state id a.1, none_admits id xs a.2)

module _ (id : ℕ) (o : Begun) (os : List Begun) (some : admit o.state id ≡ 0 → ⊥) (xs : List Begun) (a : Shut (height id) xs) where
  -- The request joins o,
  pub joins : joining id (xs ++ (o ∷ os)) ≡ o ∷ os
  joins = (joins_over xs o os id (none_admits id xs a) some).0

  ends : completed (ending id (xs ++ (o ∷ os))) ≡ true
  unfolding completed
  ends = rw (joins_over xs o os id (none_admits id xs a) some).1 (rw append-nil at (shut_completed (height id) xs [] a refl))

  -- and is not refused for where it joins.
  pub joined_on : (next : ℕ) → join_number (xs ++ (o ∷ os)) id next ≡ next
  unfolding join_number
  joined_on next = rw (joins, ends, ne_eqb (length (o ∷ os)) 0 (λ z. omega arith))
