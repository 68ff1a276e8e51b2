-- The stack and the listed units go on together over one more unit.
use Rattle.std.proofs.Common.{◌≡◌, refl, Bool, false, true, cond, List, [], ◌∷◌, map, ℕ, suc, ◌≤◌, ◌<◌, ◌+◌, arith, le-leb, length}
use mathlib.Core.Bool.{and-true}
use Rattle.cdf_unit_table.specs.States.{opens, nothing}
use Rattle.cdf_unit_list.specs.Units.{after, parents_that, open_at}
use Rattle.cdf_unit_list.specs.Stack.{opened}
use Rattle.cdf_unit_table.specs.Heights.{height_in}
use Rattle.cdf_unit_list.specs.declared.Unit.{Unit}
use Rattle.cdf_unit_list.specs.declared.Open.{Open}
use Rattle.cdf_unit_list.proofs.Nested.{reaching, Nested, narrow, still_reach}
use Rattle.cdf_unit_list.proofs.StatesListed.{open_of, Before, before_later, new_state}

-- However many units lie in one another, their heights leave room for no more than five.
abbrev pub Bounded : List Open → Type 0
Bounded [] = record {}
Bounded (o ∷ os) = (height_in o.state + suc (length os) ≤ 5) × Bounded os

-- What the stack has to do with the units listed so far, at the next position.
pub record Follow (us : List Unit) (os : List Open) (pos : ℕ) : Type 0 where
  pub stack : os ≡ map (open_of us) (reaching pos us)
  pub nested : Nested pos pos (reaching pos us)
  pub before : Before pos us
  pub bounded : Bounded os

pub after_between : (u : Unit) → u.own ≤ u.end → (u.own ≤ after u) × (after u ≤ u.end)
unfolding after
after_between u h = go (opens u.id)
  where
    go : (b : Bool) → (u.own ≤ cond b u.own u.end) × (cond b u.own u.end ≤ u.end)
    go true = omega arith
    go false = omega arith

-- The unit v lies in the units that are open where it starts; `os` are those, once the innermost of them has had it.
pub record Enters (us : List Unit) (os : List Open) (v : Unit) : Type 0 where
  pub own : v.start < v.own
  pub end : v.own ≤ v.end
  pub around : os ≡ map (open_of (v ∷ us)) (open_at v.start us)
  pub nested : Nested v.start v.end (open_at v.start us)
  pub before : Before v.start us
  pub bounded : Bounded (opened v os)
  pub shallow : length (open_at v.start us) ≤ 4

module _ (us : List Unit) (os : List Open) (v : Unit) (e : Enters us os v) where
  reaching_new : (pos : ℕ) → v.start < pos → pos ≤ v.end →
      reaching pos (v ∷ us) ≡ cond (opens v.id) (v ∷ open_at v.start us) (open_at v.start us)
  unfolding open_at parents_that
  reaching_new pos p q =
      let far = narrow (open_at v.start us) v.start v.end v.start pos (omega arith) q e.nested in
      rw (le-leb pos v.end q, and-true, still_reach (suc v.start) pos p us v.start far)

  pub enter : Follow (v ∷ us) (opened v os) (after v)
  unfolding opened
  enter =
      let between = after_between v e.end in
      let r = reaching_new (after v) (omega arith) between.1 in
      record {
        stack = rw r (stack (opens v.id));
        nested = rw r (nested (opens v.id) (after v) (omega arith) (omega arith));
        before = (omega arith, before_later us v.start (after v) (omega arith) e.before);
        bounded = e.bounded;
      }
    where
      stack : (b : Bool) →
          cond b (record { state = nothing v.id; start = v.start; end = v.end } ∷ os) os
          ≡ map (open_of (v ∷ us)) (cond b (v ∷ open_at v.start us) (open_at v.start us))
      stack true = rw (new_state v us e.before, e.around)
      stack false = e.around

      nested : (b : Bool) (pos : ℕ) → v.start < pos → pos ≤ v.end →
          Nested pos pos (cond b (v ∷ open_at v.start us) (open_at v.start us))
      nested true pos p q = (p, q, e.nested)
      nested false pos p q = narrow (open_at v.start us) v.start v.end pos pos (omega arith) q e.nested

-- Entering a unit keeps the bound: it is lower than the innermost of those around it, whose height stays.
pub opened_bounded : (v : Unit) (os : List Open) → (opens v.id ≡ true → height_in (nothing v.id) + suc (length os) ≤ 5) → Bounded os →
    Bounded (opened v os)
unfolding opened
opened_bounded v os low h = go (opens v.id) low
  where
    go : (b : Bool) → (b ≡ true → height_in (nothing v.id) + suc (length os) ≤ 5) →
        Bounded (cond b (record { state = nothing v.id; start = v.start; end = v.end } ∷ os) os)
    go true low = (low refl, h)
    go false low = h

-- The unit that was judged at a position.
abbrev pub unit_from : ℕ → ℕ → ℕ → ℕ → ℕ → Unit
unit_from pos id action own len = record { id = id; action = action; start = pos; own = pos + own; end = pos + len }
