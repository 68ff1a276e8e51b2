-- Units in a list of numbers, and what a call leaves that fills one.
use Rattle.std.specs.Prelude.{ℕ, ◌*◌, ◌/◌, ◌≡◌, List, [], ◌∷◌, ◌++◌, length, drop, Result, Ok, Err}
use Rattle.cdf_refusal.specs.Numbers.{number_of}
use Rattle.cdf_refusal.specs.declared.Fault.{Fault}
use Rattle.cdf_unit_prefix.specs.Layout.{layout_for}
use Rattle.cdf_unit_list.specs.declared.Ranked.{Ranked}
use Rattle.cdf_reader.specs.View.{view}
use Rattle.cdf_reader.specs.declared.Place.{Place}
use Rattle.cdf_reader_units_spec.specs.Batch.{Batch, batch_of}
use Rattle.cdf_reader_units.specs.declared.Filled.{Filled}

-- The seven numbers of a unit: id, action, start, own end, end, depth and rank.
abbrev pub unit_numbers : Ranked → List ℕ
unit_numbers r =
    r.unit.id ∷ r.unit.action ∷ r.unit.start ∷ r.unit.own ∷ r.unit.end ∷ r.depth ∷ r.rank ∷ []

unfoldable pub units_numbers : List Ranked → List ℕ
units_numbers [] = []
units_numbers (r ∷ rs) = unit_numbers r ++ units_numbers rs

-- The list with these units at its front; the rest stays.
abbrev pub list_after : List Ranked → List ℕ → List ℕ
list_after rs list = units_numbers rs ++ drop (7 * length rs) list

-- A list has room for a unit in seven numbers.
abbrev pub room_of : List ℕ → ℕ
room_of list = length list / 7

-- The batch that is due to a place and a list.
abbrev pub batch_for : List ℕ → Place → List ℕ → Batch
batch_for s p list = batch_of (layout_for s) s (view p) (room_of list)

-- What the call tells: the number and its offset, how many units there are, and the place that goes with them. A refusal leaves the place.
pub record Told : Type 0 where
  pub number : ℕ
  pub offset : ℕ
  pub count : ℕ
  pub place : Place

abbrev pub told_of : Place → Result Filled Fault → Told
told_of p (Ok f) = record { number = 0; offset = 0; count = f.count; place = f.place }
told_of p (Err e) = record { number = number_of e.refusal; offset = e.offset; count = 0; place = p }

-- What filling a list leaves. Where there is no unit the struct stays too.
pub record Fills (s : List ℕ) (p : Place) (before : List ℕ) (f : Told) (after : List ℕ) : Type 0 where
  pub number : f.number ≡ (batch_for s p before).number
  pub offset : f.offset ≡ (batch_for s p before).offset
  pub count : f.count ≡ length (batch_for s p before).units
  pub place : view f.place ≡ (batch_for s p before).place
  pub kept : f.count ≡ 0 → f.place ≡ p
  pub list : after ≡ list_after (batch_for s p before).units before
