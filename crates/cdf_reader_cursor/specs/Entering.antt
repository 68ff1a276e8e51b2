-- The outcome that hands out a unit, for any numbers. The claims and the reader's promises are stated without this file: a law
-- (proofs/Entered) says that it is what a step comes to.
use Rattle.std.specs.Prelude.{ℕ, true, false, cond, eqb}
use Rattle.cdf_unit_table.specs.States.{nothing, opens}
use Rattle.cdf_unit_list.specs.Stack.{with_state}
use Rattle.cdf_unit_list.specs.declared.Open.{Open}
use Rattle.cdf_unit_list.specs.declared.Ranked.{Ranked}
use Rattle.cdf_reader_close.specs.Levels.{rank_at}
use Rattle.cdf_reader_cursor.specs.Outcomes.{handing}
use Rattle.cdf_reader_cursor.specs.declared.Cursor.{Cursor}
use Rattle.cdf_reader_cursor.specs.declared.Outcome.{Outcome}

-- The rank of the innermost of so many units that are left open.
abbrev pub left_rank : Cursor → ℕ → ℕ
left_rank c count = rank_at count c.units.count c.ranks

-- Behind a unit that admits no others: `count` units stay open, `top` the innermost.
abbrev pub behind : Cursor → ℕ → Open → Ranked → Cursor
behind c count top h = record {
  position = h.unit.end;
  units = record { count = count; top = top; o1 = c.units.o1; o2 = c.units.o2; o3 = c.units.o3 };
  last = h.unit;
  fresh = false;
  ranks = record { top = left_rank c count; r1 = c.ranks.r1; r2 = c.ranks.r2; r3 = c.ranks.r3; last = h.rank };
}

-- In a unit that admits others, in this state: it is the innermost of so many, and these are around it, with these ranks.
abbrev pub inside : Ranked → ℕ → ℕ → Open → Open → Open → ℕ → ℕ → ℕ → Cursor
inside h state count o1 o2 o3 r1 r2 r3 = record {
  position = h.unit.own;
  units = record {
    count = count;
    top = record { state = state; start = h.unit.start; end = h.unit.end };
    o1 = o1;
    o2 = o2;
    o3 = o3;
  };
  last = h.unit;
  fresh = true;
  ranks = record { top = h.rank; r1 = r1; r2 = r2; r3 = r3; last = h.rank };
}

-- Of 1 unit left open the innermost takes the first slot, of 2 the second, of any other number the third.
abbrev pub first : Cursor → ℕ → Open → Ranked → Cursor
first c count top h = inside h (nothing h.unit.id) 2 top c.units.o2 c.units.o3 (left_rank c count) c.ranks.r2 c.ranks.r3

abbrev pub second : Cursor → ℕ → Open → Ranked → Cursor
second c count top h = inside h (nothing h.unit.id) 3 c.units.o1 top c.units.o3 c.ranks.r1 (left_rank c count) c.ranks.r3

abbrev pub third : Cursor → ℕ → Open → Ranked → Cursor
third c count top h = inside h (nothing h.unit.id) 4 c.units.o1 c.units.o2 top c.ranks.r1 c.ranks.r2 (left_rank c count)

abbrev pub within : Cursor → ℕ → Open → Ranked → Cursor
within c count top h = cond (eqb count 1) (first c count top h) (cond (eqb count 2) (second c count top h) (third c count top h))

-- `count` units are left open, `top` the innermost, which is then in this state.
unfoldable pub entering : Cursor → ℕ → Open → Ranked → ℕ → Outcome
unfolding opens with_state
entering c count top h state =
    handing h (cond (opens h.unit.id) (within c count (with_state top state) h) (behind c count (with_state top state) h))
