-- The outcome that hands out a unit is what a step comes to.
use Rattle.std.proofs.Common.{ℕ, zero, suc, ◌≤◌, ◌≡◌, refl, sym, ◌∙◌, Bool, true, false, cond, ◌∷◌, arith, eq-eqb, ne_eqb}
use Rattle.cdf_unit_table.specs.States.{nothing, opens}
use Rattle.cdf_unit_table.proofs.Rows.{opens_by, leaf_by}
use Rattle.cdf_unit_list.specs.Units.{after}
use Rattle.cdf_unit_list.specs.Stack.{found, opened, with_state}
use Rattle.cdf_unit_list.specs.declared.Open.{Open}
use Rattle.cdf_unit_list.specs.declared.Ranked.{Ranked}
use Rattle.cdf_unit_list.proofs.Stepping.{fresh, opened_parent, opened_leaf}
use Rattle.cdf_reader_spec.specs.Place.{ReaderPlace}
use Rattle.cdf_reader_spec.specs.Closing.{unclosed_ranks}
use Rattle.cdf_reader_spec.specs.Ranking.{next_rank, depth_at}
use Rattle.cdf_reader_spec.specs.Calls.{Reply, place_at, stepped}
use Rattle.cdf_reader_spec.specs.Slots.{around, held_of, open_units, open_ranks}
use Rattle.cdf_reader_spec.proofs.Replying.{found_is}
use Rattle.cdf_reader_cursor.specs.Outcomes.{cursor_place, outcome_reply, handing}
use Rattle.cdf_reader_cursor.specs.Entering.{left_rank, behind, inside, first, second, third, within, entering}
use Rattle.cdf_reader_cursor.specs.declared.Cursor.{Cursor}
use Rattle.cdf_reader_cursor.proofs.Again.{depth_is, given_is}

-- What the code makes of it, by the unit's first state: none,
module _ (c : Cursor) (count : ℕ) (top : Open) (h : Ranked) (state start : ℕ) (is : start ≡ nothing h.unit.id) where
  pub none : start ≡ 0 → entering c count top h state ≡ handing h (behind c count (with_state top state) h)
  unfolding entering
  none e = rw (leaf_by h.unit.id start is e)

  -- or one; then by how many units are left open.
  module _ (some : start ≡ 0 → ⊥) where
    entered : entering c count top h state ≡ handing h (within c count (with_state top state) h)
    unfolding entering
    entered = rw (opens_by h.unit.id start is some)

    pub one : count ≡ 1 → entering c count top h state ≡ handing h (first c count (with_state top state) h)
    one e = entered ∙ rw (eq-eqb count 1 e)

    pub two : (count ≡ 1 → ⊥) → count ≡ 2 → entering c count top h state ≡ handing h (second c count (with_state top state) h)
    two a e = entered ∙ rw (ne_eqb count 1 a, eq-eqb count 2 e)

    pub more : (count ≡ 1 → ⊥) → (count ≡ 2 → ⊥) → entering c count top h state ≡ handing h (third c count (with_state top state) h)
    more a b = entered ∙ rw (ne_eqb count 1 a, ne_eqb count 2 b)

-- What closing from the place v has left at the cursor, and how the unit ranks after it: `count` units are open, and the unit stands
-- directly in the innermost, which started before it.
pub record Ranking (v : ReaderPlace) (c : Cursor) (count : ℕ) (top : Open) (h : Ranked) : Type 0 where
  pub left :
      unclosed_ranks v.units v.ranks v.position
      ≡ held_of 0 count (left_rank c count) c.ranks.r1 c.ranks.r2 c.ranks.r3
  pub next : next_rank v ≡ h.rank
  pub deep : h.depth ≡ suc count
  pub apart : top.start ≡ h.unit.start → ⊥

-- `outer` is the unit that encloses it, in its new state.
module _ (v : ReaderPlace) (c : Cursor) (h : Ranked) (outer : Open) where
  abbrev Due : ℕ → Reply
  Due count = stepped v (found h.unit (opened h.unit (open_units count outer c.units.o1 c.units.o2 c.units.o3)) (after h.unit))

  abbrev Place : ℕ → ReaderPlace
  Place count = place_at v h.unit (opened h.unit (open_units count outer c.units.o1 c.units.o2 c.units.o3)) (after h.unit)

  -- The place is the one due, and the unit as deep there as it is said to be.
  gives : (count : ℕ) (q : Cursor) → cursor_place q ≡ Place count → depth_at (cursor_place q) ≡ h.depth → q.last ≡ h.unit →
      q.ranks.last ≡ h.rank → outcome_reply (handing h q) ≡ Due count
  gives count q e deep last rank = given_is q h last deep rank ∙ rw e (sym (found_is v h.unit _ _))

  module _ (count : ℕ) (k : Ranking v c count outer h) where
    leaf_place : opens h.unit.id ≡ false → cursor_place (behind c count outer h) ≡ Place count
    unfolding open_ranks
    leaf_place shut =
        let w = opened_leaf h.unit (open_units count outer c.units.o1 c.units.o2 c.units.o3) shut in
        rw (w.0, w.1, shut, k.left, k.next)

    leaf : 1 ≤ count → opens h.unit.id ≡ false → outcome_reply (handing h (behind c count outer h)) ≡ Due count
    leaf some shut =
        gives count (behind c count outer h) (leaf_place shut)
        (depth_is (behind c count outer h) some ∙ rw (ne_eqb outer.start h.unit.start k.apart, k.deep))
        refl refl

    -- The units then open are the new one and those that were, and so are the ranks.
    module _ (opening : opens h.unit.id ≡ true) (p1 p2 p3 : Open) (r1 r2 r3 : ℕ)
        (us : open_units (suc count) (fresh h.unit) p1 p2 p3 ≡ fresh h.unit ∷ open_units count outer c.units.o1 c.units.o2 c.units.o3)
        (ks : held_of 0 (suc count) h.rank r1 r2 r3
        ≡ h.rank ∷ held_of 0 count (left_rank c count) c.ranks.r1 c.ranks.r2 c.ranks.r3) where
      abbrev In : Cursor
      In = inside h (nothing h.unit.id) (suc count) p1 p2 p3 r1 r2 r3

      pushed_place : cursor_place In ≡ Place count
      unfolding open_ranks
      pushed_place =
          let w = opened_parent h.unit (open_units count outer c.units.o1 c.units.o2 c.units.o3) opening in
          rw (us, ks, w.0, w.1, opening, k.left, k.next)

      pushed : outcome_reply (handing h In) ≡ Due count
      pushed =
          gives count In pushed_place
          (depth_is In (omega arith) ∙ rw (eq-eqb h.unit.start h.unit.start refl, k.deep))
          refl refl

  parent : opens h.unit.id ≡ true → (count : ℕ) → Ranking v c count outer h → 1 ≤ count → count ≤ 3 →
      outcome_reply (handing h (within c count outer h)) ≡ Due count
  unfolding open_units around held_of
  parent opening zero k some few = absurd (omega arith)
  parent opening (suc zero) k some few = pushed 1 k opening outer c.units.o2 c.units.o3 _ _ _ refl refl
  parent opening (suc (suc zero)) k some few = pushed 2 k opening c.units.o1 outer c.units.o3 _ _ _ refl refl
  parent opening (suc (suc (suc zero))) k some few = pushed 3 k opening c.units.o1 c.units.o2 outer _ _ _ refl refl
  parent opening (suc (suc (suc (suc k)))) r some few = absurd (omega arith)

-- Where a unit is open, and one that admits others leaves room for itself.
pub steps : (v : ReaderPlace) (c : Cursor) (count : ℕ) (top : Open) (h : Ranked) (state : ℕ) → 1 ≤ count →
    (opens h.unit.id ≡ true → count ≤ 3) → Ranking v c count (with_state top state) h →
    outcome_reply (entering c count top h state)
    ≡ stepped v (found h.unit (opened h.unit (open_units count (with_state top state) c.units.o1 c.units.o2 c.units.o3)) (after h.unit))
unfolding entering
steps v c count top h state some few k = go (opens h.unit.id) refl
  where
    go : (b : Bool) → opens h.unit.id ≡ b →
        outcome_reply (handing h (cond b (within c count (with_state top state) h) (behind c count (with_state top state) h)))
        ≡ stepped v (found h.unit (opened h.unit (open_units count (with_state top state) c.units.o1 c.units.o2 c.units.o3)) (after h.unit))
    go true e = parent v c h (with_state top state) e count k some (few e)
    go false e = leaf v c h (with_state top state) count k some e
