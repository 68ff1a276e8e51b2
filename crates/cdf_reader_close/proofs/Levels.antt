-- What closing leaves of the ranks that a struct holds, and the rank that follows, by how many units it leaves.
use Rattle.std.proofs.Common.{ℕ, zero, suc, ◌≤◌, ◌≡◌, refl, sym, ap, ◌∙◌, Bool, true, false, cond, List, [], ◌∷◌, arith, eq-eqb, eqb-true, ne_eqb}
use Rattle.std.proofs.Common.{eqb, length}
use Rattle.std.proofs.lemmas.Bool.{eqb-false}
use Rattle.cdf_unit_table.proofs.Bools.{of_cond}
use Rattle.cdf_unit_list.specs.declared.Open.{Open}
use Rattle.cdf_reader_spec.specs.Closing.{closes, unclosed, unclosed_ranks}
use Rattle.cdf_reader_spec.specs.Ranking.{rank_after}
use Rattle.cdf_reader_spec.specs.Slots.{no_open, slot, slot_of, around, around_of, held_of, open_units, open_ranks}
use Rattle.cdf_reader_spec.specs.declared.Ranks.{Ranks}
use Rattle.cdf_reader_spec.proofs.Counted.{length_around, inner_held}
use Rattle.cdf_reader_close.specs.Levels.{rank_at}

-- Closing adds none.
pub most : (pos : ℕ) (os : List Open) → length (unclosed os pos) ≤ length os
unfolding unclosed
most pos [] = omega arith
most pos (o ∷ os) =
    of_cond (λ (us : List Open). length us ≤ suc (length os)) (closes pos o) (unclosed os pos) (o ∷ os)
    (λ e. omega (arith, most pos os)) (λ e. omega arith)

module _ (pos : ℕ) (o1 o2 o3 : Open) (r1 r2 r3 : ℕ) where
  abbrev Units : ℕ → Open → List Open
  Units count top = open_units count top o1 o2 o3

  abbrev Held : ℕ → ℕ → List ℕ
  Held count top = held_of 0 count top r1 r2 r3

  abbrev Slot : ℕ → ℕ
  Slot k = slot_of 0 r1 r2 r3 k

  abbrev level : ℕ → ℕ → ℕ → ℕ
  level at count top = cond (eqb at count) top (Slot at)

  few : (k : ℕ) → length (unclosed (around o1 o2 o3 k) pos) ≤ k
  unfolding around
  few k = omega (arith, most pos (around o1 o2 o3 k), length_around no_open o1 o2 o3 k)

  -- With one unit less, whose rank stood in a slot, each level has the rank that it had.
  outer : (k at rank : ℕ) → at ≤ k → level at k (Slot k) ≡ level at (suc k) rank
  outer k at rank h = rw (ne_eqb at (suc k) (λ e. omega arith)) (go (eqb at k) refl)
    where
      go : (b : Bool) → eqb at k ≡ b → cond b (Slot k) (Slot at) ≡ Slot at
      go true e = ap (λ n. Slot n) (sym (eqb-true at k e))
      go false e = refl

  -- So many units and their ranks; how many are left of them.
  module _ (us : List Open) (ks : List ℕ) where
    abbrev Of : ℕ → Open → ℕ → Type 0
    Of count top rank = (us ≡ Units count top) × (ks ≡ Held count rank)

    abbrev left : ℕ
    left = length (unclosed us pos)

    -- The ranks that are left, and the one that follows.
    abbrev Leaves : ℕ → ℕ → Type 0
    Leaves count rank = unclosed_ranks us ks pos ≡ Held left (level left count rank)

    abbrev Follows : ℕ → ℕ → Type 0
    Follows count rank = (given : ℕ) → rank_after us ks pos given ≡ cond (eqb left count) given (suc (level (suc left) count rank))

  -- The innermost stays,
  stays : (k m rank : ℕ) → m ≡ suc k → rank ∷ around_of 0 r1 r2 r3 k ≡ Held m (level m (suc k) rank)
  unfolding held_of
  stays k m rank e = rw (e, eq-eqb (suc k) (suc k) refl)

  stays_next : (k m rank given : ℕ) → m ≡ suc k → given ≡ cond (eqb m (suc k)) given (suc (level (suc m) (suc k) rank))
  stays_next k m rank given e = rw (eq-eqb m (suc k) e)

  -- or it closes, and the units around it are asked.
  closes_next : (k m rank given : ℕ) → m ≤ k →
      cond (eqb m k) (suc rank) (suc (level (suc m) k (Slot k))) ≡ cond (eqb m (suc k)) given (suc (level (suc m) (suc k) rank))
  closes_next k m rank given h = rw (ne_eqb m (suc k) (λ e. omega arith)) (go (eqb m k) refl)
    where
      go : (b : Bool) → eqb m k ≡ b → cond b (suc rank) (suc (level (suc m) k (Slot k))) ≡ suc (level (suc m) (suc k) rank)
      go true e = rw (eqb-true m k e, eq-eqb (suc k) (suc k) refl)
      go false e = ap suc (outer k (suc m) rank (omega (arith, eqb-false m k e)))

  around_of_lem : (k : ℕ) → Of (around o1 o2 o3 k) (around_of 0 r1 r2 r3 k) k (slot o1 o2 o3 k) (Slot k)
  unfolding open_units
  around_of_lem k = (inner_held _ o1 o2 o3 k, inner_held 0 r1 r2 r3 k)

  leaves : (count : ℕ) (top : Open) (rank : ℕ) (us : List Open) (ks : List ℕ) → Of us ks count top rank → Leaves us ks count rank
  unfolding open_units held_of unclosed unclosed_ranks
  leaves zero top rank us ks is = rw is.0
  leaves (suc k) top rank us ks is =
      rw (is.0, is.1)
      (go (closes pos top) (leaves k (slot o1 o2 o3 k) (Slot k) (around o1 o2 o3 k) (around_of 0 r1 r2 r3 k) (around_of_lem k)))
    where
      go : (b : Bool) → Leaves (around o1 o2 o3 k) (around_of 0 r1 r2 r3 k) k (Slot k) →
          let m = length (cond b (unclosed (around o1 o2 o3 k) pos) (top ∷ around o1 o2 o3 k)) in
          cond b (unclosed_ranks (around o1 o2 o3 k) (around_of 0 r1 r2 r3 k) pos) (rank ∷ around_of 0 r1 r2 r3 k)
          ≡ Held m (level m (suc k) rank)
      go true ih =
          let m = length (unclosed (around o1 o2 o3 k) pos) in
          ih ∙ ap (λ r. Held m r) (outer k m rank (few k))
      go false ih = stays k (suc (length (around o1 o2 o3 k))) rank (ap suc (length_around _ o1 o2 o3 k))

  follows : (count : ℕ) (top : Open) (rank : ℕ) (us : List Open) (ks : List ℕ) → Of us ks count top rank → Follows us ks count rank
  unfolding open_units held_of unclosed rank_after
  follows zero top rank us ks is given = rw is.0
  follows (suc k) top rank us ks is given =
      rw (is.0, is.1)
      (go (closes pos top) (follows k (slot o1 o2 o3 k) (Slot k) (around o1 o2 o3 k) (around_of 0 r1 r2 r3 k) (around_of_lem k)))
    where
      go : (b : Bool) → Follows (around o1 o2 o3 k) (around_of 0 r1 r2 r3 k) k (Slot k) →
          let m = length (cond b (unclosed (around o1 o2 o3 k) pos) (top ∷ around o1 o2 o3 k)) in
          cond b (rank_after (around o1 o2 o3 k) (around_of 0 r1 r2 r3 k) pos (suc rank)) given
          ≡ cond (eqb m (suc k)) given (suc (level (suc m) (suc k) rank))
      go true ih = ih (suc rank) ∙ closes_next k (length (unclosed (around o1 o2 o3 k) pos)) rank given (few k)
      go false ih = stays_next k (suc (length (around o1 o2 o3 k))) rank given (ap suc (length_around _ o1 o2 o3 k))

-- The same of a struct's parts, of which `left` units are left.
module _ (position count : ℕ) (top o1 o2 o3 : Open) (k : Ranks) (left : ℕ)
    (is : left ≡ length (unclosed (open_units count top o1 o2 o3) position)) where
  pub left-ranks :
      unclosed_ranks (open_units count top o1 o2 o3) (open_ranks count k) position
      ≡ held_of 0 left (rank_at left count k) k.r1 k.r2 k.r3
  unfolding open_ranks
  left-ranks = rw is (leaves position o1 o2 o3 k.r1 k.r2 k.r3 count top k.top _ _ (refl, refl))

  pub rank_after_lem : (given : ℕ) →
      rank_after (open_units count top o1 o2 o3) (open_ranks count k) position given
      ≡ cond (eqb left count) given (suc (rank_at (suc left) count k))
  unfolding open_ranks
  rank_after_lem given = rw is (follows position o1 o2 o3 k.r1 k.r2 k.r3 count top k.top _ _ (refl, refl) given)
