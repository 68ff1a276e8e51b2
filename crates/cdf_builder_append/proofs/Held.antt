-- A count, and how many slots are meant by it.
use Rattle.std.proofs.Common.{ℕ, ◌≤◌, ◌≡◌, refl, Bool, true, false, cond, arith, leb-true, le-leb, leb}
use Rattle.cdf_builder_spec.specs.Slots.{placed}
use Rattle.cdf_builder_spec.specs.declared.Parts.{Parts}
use Rattle.cdf_builder_append.specs.Held.{held}

-- At most four are all held.
pub held_few : (p : Parts) → p.units.count ≤ 4 → held p ≡ placed p
held_few p few = rw (le-leb p.units.count 4 few)

module _ (count : ℕ) where
  abbrev slots : ℕ
  slots = cond (leb count 4) count 4

  pub slots_four : 4 ≤ count → slots ≡ 4
  slots_four many = by (leb count 4) refl
    where
      by : (b : Bool) → leb count 4 ≡ b → cond b count 4 ≡ 4
      by true e = omega (arith, leb-true count 4 e)
      by false e = refl

  -- None is held only where none is open.
  pub slots_some : (count ≡ 0 → ⊥) → slots ≡ 0 → ⊥
  slots_some some = by (leb count 4)
    where
      by : (b : Bool) → cond b count 4 ≡ 0 → ⊥
      by true e = some e
      by false e = omega arith
