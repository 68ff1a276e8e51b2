-- Places and answers as the numbers that cross to C.
use Rattle.std.specs.Prelude.{ℕ, ◌≡◌, Bool, true, false, not, cond, List, [], ◌∷◌, eqb, get_or}
use Rattle.cdf_unit_prefix.specs.Layout.{layout_for}
use Rattle.cdf_unit_list.specs.declared.Open.{Open}
use Rattle.cdf_reader_spec.specs.Calls.{Reply, Part, is_start, call_of, part_taken}
use Rattle.cdf_reader_spec.specs.declared.Call.{Call}
use Rattle.cdf_reader_spec.specs.declared.Call.TheVariants.{Start, Next, Skip, GetStream, Previous}
use Rattle.cdf_reader.specs.View.{view, no_place}
use Rattle.cdf_reader.specs.declared.Place.{Place}

-- The open unit whose state, start and end stand at these three entries.
abbrev pub open_from : List ℕ → ℕ → ℕ → ℕ → Open
open_from a i j k = record { state = get_or a i 0; start = get_or a j 0; end = get_or a k 0 }

-- The place that 25 numbers are: the position; how many units are open; the innermost open unit, then the others from the root inwards;
-- the last unit (id, action, start, own end, end); whether that one may still be skipped, which any number but 0 says; and the ranks of the
-- open units, in the same order, and of the last one.
abbrev pub place_from : List ℕ → Place
place_from a = record {
  position = get_or a 0 0;
  units = record {
    count = get_or a 1 0;
    top = open_from a 2 3 4;
    o1 = open_from a 5 6 7;
    o2 = open_from a 8 9 10;
    o3 = open_from a 11 12 13;
  };
  last = record { id = get_or a 14 0; action = get_or a 15 0; start = get_or a 16 0; own = get_or a 17 0; end = get_or a 18 0 };
  fresh = not (eqb (get_or a 19 0) 0);
  ranks = record { top = get_or a 20 0; r1 = get_or a 21 0; r2 = get_or a 22 0; r3 = get_or a 23 0; last = get_or a 24 0 };
}

-- The numbers that are written of a place; the flag as 1 or 0.
abbrev pub numbers_of : Place → List ℕ
numbers_of p =
    p.position
    ∷ p.units.count
    ∷ p.units.top.state
    ∷ p.units.top.start
    ∷ p.units.top.end
    ∷ p.units.o1.state
    ∷ p.units.o1.start
    ∷ p.units.o1.end
    ∷ p.units.o2.state
    ∷ p.units.o2.start
    ∷ p.units.o2.end
    ∷ p.units.o3.state
    ∷ p.units.o3.start
    ∷ p.units.o3.end
    ∷ p.last.id
    ∷ p.last.action
    ∷ p.last.start
    ∷ p.last.own
    ∷ p.last.end
    ∷ cond p.fresh 1 0
    ∷ p.ranks.top
    ∷ p.ranks.r1
    ∷ p.ranks.r2
    ∷ p.ranks.r3
    ∷ p.ranks.last
    ∷ []

-- The ten numbers of an answer: the offset, the unit (id, action, start, own end, end), the part's start and length, and the unit's depth
-- and rank.
abbrev pub answer_numbers : Reply → Part → List ℕ
answer_numbers r part =
    r.offset
    ∷ r.handed.unit.id
    ∷ r.handed.unit.action
    ∷ r.handed.unit.start
    ∷ r.handed.unit.own
    ∷ r.handed.unit.end
    ∷ part.start
    ∷ part.size
    ∷ r.handed.depth
    ∷ r.handed.rank
    ∷ []

-- The reply and the part that are due to a call on the place that these numbers are.
abbrev pub reply_to : Call → List ℕ → List ℕ → Reply
reply_to c s numbers = call_of (layout_for s) s (view (place_from numbers)) c

abbrev pub part_to : Call → List ℕ → List ℕ → Part
part_to c s numbers = part_taken (layout_for s) s (view (place_from numbers)) c

-- The place's numbers after a refusal: those that were given, and zeros after a refused start.
abbrev pub numbers_kept : Call → List ℕ → List ℕ
numbers_kept c numbers = cond (is_start c) (numbers_of no_place) numbers

-- The call leaves the place's numbers as they are: PREVIOUS does so always, a start never, any other beside a number that is not 0.
abbrev pub keeps : Call → ℕ → Bool
keeps Start number = false
keeps Next number = not (eqb number 0)
keeps Skip number = not (eqb number 0)
keeps GetStream number = not (eqb number 0)
keeps Previous number = true

-- What a call leaves: its number, the answer's numbers, and the place's, which are the new place by its view. Where the call does
-- not keep those that were given, they are written of some struct with that view, the flag as 1 or 0.
pub record Called (c : Call) (s before : List ℕ) (number : ℕ) (after answer : List ℕ) : Type 0 where
  pub told : number ≡ (reply_to c s before).number
  pub answers : answer ≡ answer_numbers (reply_to c s before) (part_to c s before)
  pub moves : view (place_from after) ≡ (reply_to c s before).place
  pub stays : (number ≡ 0 → ⊥) → after ≡ numbers_kept c before
  pub again : keeps c number ≡ true → after ≡ before
  pub written : keeps c number ≡ false → (q : Place) × (view q ≡ (reply_to c s before).place) × (after ≡ numbers_of q)
