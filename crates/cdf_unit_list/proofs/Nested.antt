-- The listed units that reach a position lie one in the other: what that tells of those that end there or later.
use Rattle.std.proofs.Common.{◌≡◌, refl, ap, Bool, false, true, cond, ◌&&◌, List, [], ◌∷◌, ℕ, suc, ◌≤◌, ◌<◌, arith, leb-false, le-leb, ne_eqb, leb}
use Rattle.std.proofs.Common.{eqb}
use Rattle.std.proofs.lemmas.Bool.{lt-leb}
use Rattle.cdf_unit_table.specs.States.{opens}
use Rattle.cdf_unit_list.specs.Units.{parents_that, closing_at}
use Rattle.cdf_unit_list.specs.declared.Unit.{Unit}

-- Those that end at the position, or later.
abbrev pub reaching : ℕ → List Unit → List Unit
reaching pos us = parents_that (λ u. leb pos u.end) us

-- The first surrounds what lies from `start` to `end`, each other one the unit before it.
abbrev pub Nested : ℕ → ℕ → List Unit → Type 0
Nested start end [] = record {}
Nested start end (u ∷ us) = (u.start < start) × (end ≤ u.end) × Nested u.start u.end us

pub narrow : (us : List Unit) (a e b f : ℕ) → a ≤ b → f ≤ e → Nested a e us → Nested b f us
narrow [] a e b f p q h = h
narrow (u ∷ us) a e b f p q h = (omega arith, omega arith, h.2)

-- Where those that reach `pos` all reach `far`, a test that fails before `pos` and is c from `far` on passes all of them
-- or none.
settled : (pos far : ℕ) (f : Unit → Bool) (c : Bool) →
    ((u : Unit) → u.end < pos → f u ≡ false) → ((u : Unit) → far ≤ u.end → f u ≡ c) →
    (us : List Unit) (start : ℕ) → Nested start far (reaching pos us) → parents_that f us ≡ cond c (reaching pos us) []
unfolding parents_that
settled pos far f true before later [] start h = refl
settled pos far f false before later [] start h = refl
settled pos far f c before later (u ∷ us) start h =
    go (opens u.id) (leb pos u.end) refl h (settled pos far f c before later us)
  where
    kept : (c : Bool) → parents_that f us ≡ cond c (reaching pos us) [] →
        cond c (u ∷ parents_that f us) (parents_that f us) ≡ cond c (u ∷ reaching pos us) []
    kept true e = ap (λ x. u ∷ x) e
    kept false e = e

    go : (o t : Bool) → leb pos u.end ≡ t → Nested start far (cond (o && t) (u ∷ reaching pos us) (reaching pos us)) →
        ((start : ℕ) → Nested start far (reaching pos us) → parents_that f us ≡ cond c (reaching pos us) []) →
        cond (o && f u) (u ∷ parents_that f us) (parents_that f us) ≡ cond c (cond (o && t) (u ∷ reaching pos us) (reaching pos us)) []
    go false t e h more = more start h
    go true false e h more = rw (before u (leb-false pos u.end e)) (more start h)
    go true true e h more =
        let rest = narrow (reaching pos us) u.start u.end u.start far (omega arith) h.1 h.2 in
        rw (later u h.1) (kept c (more u.start rest))

pub still_reach : (pos far : ℕ) → pos ≤ far → (us : List Unit) (start : ℕ) → Nested start far (reaching pos us) →
    reaching far us ≡ reaching pos us
still_reach pos far p =
    settled pos far (λ u. leb far u.end) true (λ u h. lt-leb far u.end (omega arith)) (λ u h. le-leb far u.end h)

pub none_closes : (pos : ℕ) (us : List Unit) (start : ℕ) → Nested start (suc pos) (reaching pos us) → closing_at pos us ≡ []
unfolding closing_at
none_closes pos =
    settled pos (suc pos) (λ u. eqb u.end pos) false
    (λ u h. ne_eqb u.end pos (λ e. omega arith)) (λ u h. ne_eqb u.end pos (λ e. omega arith))
