-- What the reader's calls answer, in document 01's terms ("Check and reader").
use Rattle.std.specs.Prelude.{ℕ, ◌-◌, Bool, true, false, not, cond, ◌&&◌, ◌||◌, List, [], ◌∷◌, eqb, length}
use Rattle.cdf_unit_table.specs.Ids.{er_group, file_group}
use Rattle.cdf_unit_table.specs.States.{opens, skipped}
use Rattle.cdf_unit_prefix.specs.Layout.{Layout}
use Rattle.cdf_unit_judge.specs.Judge.{judge_of, judge_in}
use Rattle.cdf_unit_list.specs.Stack.{Step, done, refused, found, entered, with_state, step, step_by}
use Rattle.cdf_unit_list.specs.declared.Unit.{Unit}
use Rattle.cdf_unit_list.specs.declared.Open.{Open}
use Rattle.cdf_unit_list.specs.declared.Ranked.{Ranked}
use Rattle.cdf_reader_spec.specs.Place.{ReaderPlace, is_empty, fits}
use Rattle.cdf_reader_spec.specs.Closing.{unclosed_ranks}
use Rattle.cdf_reader_spec.specs.Ranking.{next_rank, handed_at}
use Rattle.cdf_reader_spec.specs.declared.Call.{Call}
use Rattle.cdf_reader_spec.specs.declared.Call.TheVariants.{Start, Next, Skip, GetStream, Previous}

-- A call's number and offset, the unit handed out with its depth and rank, and the new place.
pub record Reply : Type 0 where
  pub number : ℕ
  pub offset : ℕ
  pub handed : Ranked
  pub place : ReaderPlace

-- Where no unit is handed out: zeros.
abbrev pub no_unit : Unit
no_unit = record { id = 0; action = 0; start = 0; own = 0; end = 0 }

abbrev pub no_ranked : Ranked
no_ranked = record { unit = no_unit; depth = 0; rank = 0 }

-- The empty place that a refused start and ABNORMAL_END return.
abbrev pub empty_place : ReaderPlace
empty_place = record { position = 0; units = []; last = no_unit; fresh = false; ranks = []; last_rank = 0 }

-- A rule that is broken: its number and offset, no unit, and the place that goes with them.
abbrev pub refuse : ℕ → ℕ → ReaderPlace → Reply
refuse n at p = record { number = n; offset = at; handed = no_ranked; place = p }

-- Success without a unit, and with one: 0 and the place that the call leads to, whose last unit is handed out.
abbrev pub move_to : ReaderPlace → Reply
move_to p = record { number = 0; offset = 0; handed = no_ranked; place = p }

abbrev pub give : ReaderPlace → Reply
give p = record { number = 0; offset = 0; handed = handed_at p; place = p }

-- The place to which a start or NEXT leads from p: the unit is the last one, and may be skipped if it admits others, which is when it is
-- opened too.
abbrev pub place_at : ReaderPlace → Unit → List Open → ℕ → ReaderPlace
place_at p u os pos =
    let left = unclosed_ranks p.units p.ranks p.position in
    record {
      position = pos;
      units = os;
      last = u;
      fresh = opens u.id;
      ranks = cond (opens u.id) (next_rank p ∷ left) left;
      last_rank = next_rank p;
    }

-- What a step from a place comes to. At the end: 1. A rule that is broken: its number and offset. A unit: it is handed out. `p`
-- is the place that goes with any number but 0.
unfoldable pub stepped : ReaderPlace → Step → Reply
unfolding unclosed_ranks next_rank handed_at
stepped p done = refuse 1 0 p
stepped p (refused n at) = refuse n at p
stepped p (found u os pos) = give (place_at p u os pos)

-- FIRST: the root's rules, 3 to 9 in order.
unfoldable pub first_of : Layout → List ℕ → Reply
unfolding stepped entered judge_in
first_of l s = stepped empty_place (entered 0 (λ state. []) (judge_of l true 0 s))

-- NEXT: 11 for the empty place, 2 for one that does not fit; then the open units that end at the position close, innermost
-- first, 10 at the first incomplete one, 1 if none is left open, and 3 to 9 for the unit at the position (`step`).
unfoldable pub next_of : Layout → List ℕ → ReaderPlace → Reply
unfolding is_empty fits stepped step_by
next_of l s p =
    cond (is_empty p) (refuse 11 0 p)
    (cond (not (fits l (length s) p)) (refuse 2 0 p) (stepped p (step l s p.units p.position)))

-- ABNORMAL_END: 0 and the empty place, whatever the place.
abbrev pub abnormal_end : Reply
abnormal_end = move_to empty_place

-- The last unit may be taken up as a whole: it was not entered, skipped or taken, and admits others.
unfoldable pub untouched : ReaderPlace → Bool
unfolding is_empty opens
untouched p = not (is_empty p) && (p.fresh && opens p.last.id)

unfoldable pub skipped_top : List Open → List Open
unfolding skipped with_state
skipped_top [] = []
skipped_top (o ∷ os) = with_state o (skipped o.state) ∷ os

-- The place past the last unit, which stays open and is skipped.
unfoldable pub passed : ReaderPlace → ReaderPlace
unfolding skipped_top
passed p = record {
  position = p.last.end;
  units = skipped_top p.units;
  last = p.last;
  fresh = false;
  ranks = p.ranks;
  last_rank = p.last_rank;
}

-- What passes the last unit, where that may be done: 11, then 2.
unfoldable pub passing : Layout → List ℕ → ReaderPlace → Bool → Reply
unfolding fits passed
passing l s p may =
    cond (not may) (refuse 11 0 p) (cond (not (fits l (length s) p)) (refuse 2 0 p) (move_to (passed p)))

-- SKIP: 11 where there is nothing to skip, 2 for a place that does not fit; else 0 and the place past the unit.
unfoldable pub skip_of : Layout → List ℕ → ReaderPlace → Reply
unfolding untouched passing
skip_of l s p = passing l s p (untouched p)

abbrev pub is_group : ℕ → Bool
is_group id = eqb id er_group || eqb id file_group

-- GET_STREAM: the same for groups alone. The part is the group's bytes: its start and its length.
unfoldable pub take_of : Layout → List ℕ → ReaderPlace → Reply
unfolding untouched passing
take_of l s p = passing l s p (untouched p && is_group p.last.id)

pub record Part : Type 0 where
  pub start : ℕ
  pub size : ℕ

abbrev pub no_part : Part
no_part = record { start = 0; size = 0 }

-- Beside any other number: the empty part at the front.
unfoldable pub part_of : Layout → List ℕ → ReaderPlace → Part
unfolding take_of
part_of l s p =
    cond (eqb (take_of l s p).number 0) (record { start = p.last.start; size = p.last.end - p.last.start })
    no_part

-- PREVIOUS: the last unit again; the place stays.
unfoldable pub previous_of : Layout → List ℕ → ReaderPlace → Reply
unfolding is_empty fits handed_at
previous_of l s p =
    cond (is_empty p) (refuse 11 0 p)
    (cond (not (fits l (length s) p)) (refuse 2 0 p) (give p))

-- A start is the one call that needs no place.
abbrev pub is_start : Call → Bool
is_start Start = true
is_start Next = false
is_start Skip = false
is_start GetStream = false
is_start Previous = false

-- Each call by its name, on a place.
unfoldable pub call_of : Layout → List ℕ → ReaderPlace → Call → Reply
unfolding first_of next_of skip_of take_of previous_of
call_of l s p Start = first_of l s
call_of l s p Next = next_of l s p
call_of l s p Skip = skip_of l s p
call_of l s p GetStream = take_of l s p
call_of l s p Previous = previous_of l s p

-- Only GET_STREAM takes a part.
unfoldable pub part_taken : Layout → List ℕ → ReaderPlace → Call → Part
unfolding part_of
part_taken l s p Start = no_part
part_taken l s p Next = no_part
part_taken l s p Skip = no_part
part_taken l s p GetStream = part_of l s p
part_taken l s p Previous = no_part
