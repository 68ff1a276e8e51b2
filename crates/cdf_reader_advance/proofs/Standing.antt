-- The rank of the next unit and the one before it, by the parts of a cursor.
use Rattle.std.proofs.Common.{ℕ, suc, ◌≤◌, ◌<◌, ◌≡◌, refl, sym, ◌∙◌, Bool, true, false, cond, arith, eq-eqb, ne_eqb, eqb-true, leb-true, leb-false}
use Rattle.std.proofs.Common.{ltb-true, ltb-false, eqb, leb, ltb, length}
use Rattle.std.proofs.lemmas.Bool.{eqb-false}
use Rattle.cdf_reader_spec.specs.Closing.{unclosed}
use Rattle.cdf_reader_spec.specs.Ranking.{innermost_at, rank_after, next_rank}
use Rattle.cdf_reader_spec.proofs.Counted.{length_open}
use Rattle.cdf_reader_close.specs.Levels.{rank_at}
use Rattle.cdf_reader_close.proofs.Levels.{most, rank_after_lem}
use Rattle.cdf_reader_cursor.specs.Outcomes.{cursor_place}
use Rattle.cdf_reader_cursor.specs.declared.Cursor.{Cursor}
use Rattle.cdf_reader_cursor.proofs.Again.{innermost}
use Rattle.cdf_reader_advance.specs.Advancing.{rank_on}
use Rattle.cdf_reader_advance.specs.Ranks.{rank_before, highest, rank_from}

-- So many units are left once those that end at the position are closed.
abbrev pub Leaves : Cursor → ℕ → Type 0
Leaves c count = count ≡ length (unclosed (cursor_place c).units c.position)

-- A unit is open, and the rank after the one before is one that a field can hold.
pub record Following (c : Cursor) (count rank : ℕ) : Type 0 where
  pub some : 1 ≤ c.units.count
  pub left : Leaves c count
  pub before : suc rank ≡ rank_on (cursor_place c)
  pub low : suc rank < 18446744073709551616

module _ (c : Cursor) (left : ℕ) (is : Leaves c left) where
  pub few : left ≤ c.units.count
  few = omega (arith, is, most c.position (cursor_place c).units, length_open c.units.count c.units.top c.units.o1 c.units.o2 c.units.o3)

  abbrev Ranks : ℕ → ℕ
  Ranks given = cond (eqb left c.units.count) given (suc (rank_at (suc left) c.units.count c.ranks))

  by_left : (given : ℕ) → rank_after (cursor_place c).units (cursor_place c).ranks c.position given ≡ Ranks given
  by_left given = rank_after_lem c.position c.units.count c.units.top c.units.o1 c.units.o2 c.units.o3 c.ranks left is given

  -- The one before, with the one after it.
  on_is : rank_on (cursor_place c) ≡ Ranks (suc c.ranks.last)
  unfolding rank_on
  on_is = by_left (suc c.ranks.last)

  last_before : left ≡ c.units.count → suc c.ranks.last ≡ rank_on (cursor_place c)
  last_before e = sym (on_is ∙ rw (eq-eqb left c.units.count e))

  closed_before : (left ≡ c.units.count → ⊥) → suc (rank_at (suc left) c.units.count c.ranks) ≡ rank_on (cursor_place c)
  closed_before e = sym (on_is ∙ rw (ne_eqb left c.units.count e))

  -- The next one's.
  next_is : (given : ℕ) → given ≡ cond (innermost_at (cursor_place c).units c.last.start) 0 (suc c.ranks.last) →
      next_rank (cursor_place c) ≡ Ranks given
  unfolding next_rank
  next_is given e = rw e (by_left _)

  after_closed : left < c.units.count → next_rank (cursor_place c) ≡ rank_on (cursor_place c)
  after_closed h =
      let e = ne_eqb left c.units.count (λ z. omega arith) in
      next_is _ refl ∙ rw e (sym (on_is ∙ rw e))

  module _ (none : c.units.count ≤ left) (some : 1 ≤ c.units.count) where
    same : eqb left c.units.count ≡ true
    same = eq-eqb left c.units.count (omega (arith, few))

    at_top : innermost_at (cursor_place c).units c.last.start ≡ eqb c.units.top.start c.last.start
    at_top = innermost c.units.count c.units.top c.units.o1 c.units.o2 c.units.o3 c.last.start some

    first_inside : c.last.start ≡ c.units.top.start → next_rank (cursor_place c) ≡ 0
    first_inside e = next_is 0 (rw (at_top, eq-eqb c.units.top.start c.last.start (sym e))) ∙ rw same

    after_last : (c.last.start ≡ c.units.top.start → ⊥) → next_rank (cursor_place c) ≡ rank_on (cursor_place c)
    after_last e =
        next_is (suc c.ranks.last) (rw (at_top, ne_eqb c.units.top.start c.last.start (λ z. e (sym z)))) ∙ sym on_is

  -- By the definitions of the code.
  pub before_is : suc (rank_before c left) ≡ rank_on (cursor_place c)
  before_is = go (leb c.units.count left) refl
    where
      go : (b : Bool) → leb c.units.count left ≡ b →
          suc (cond b c.ranks.last (rank_at (suc left) c.units.count c.ranks)) ≡ rank_on (cursor_place c)
      go true e = last_before (omega (arith, few, leb-true c.units.count left e))
      go false e = closed_before (λ same. omega (arith, leb-false c.units.count left e, same))

pub from_is : (c : Cursor) (left before : ℕ) → Following c left before → rank_from c left before ≡ next_rank (cursor_place c)
from_is c left before follow = go (eqb before highest) refl (ltb left c.units.count) refl (eqb c.last.start c.units.top.start) refl
  where
    go : (x : Bool) → eqb before highest ≡ x → (y : Bool) → ltb left c.units.count ≡ y → (z : Bool) → eqb c.last.start c.units.top.start ≡ z →
        cond x highest (cond y (suc before) (cond z 0 (suc before))) ≡ next_rank (cursor_place c)
    go true e y f z g = absurd (omega (arith, follow.low, eqb-true before highest e))
    go false e true f z g = follow.before ∙ sym (after_closed c left follow.left (ltb-true left c.units.count f))
    go false e false f true g =
        sym (first_inside c left follow.left (ltb-false left c.units.count f) follow.some (eqb-true c.last.start c.units.top.start g))
    go false e false f false g =
        follow.before
        ∙ sym (after_last c left follow.left (ltb-false left c.units.count f) follow.some (eqb-false c.last.start c.units.top.start g))
