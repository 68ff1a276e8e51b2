-- Which place of document 01 a cursor is, and which reply an outcome or a refusal; the outcomes by their parts.
use Rattle.std.specs.Prelude.{false, Result, Ok, Err}
use Rattle.cdf_refusal.specs.Numbers.{number_of}
use Rattle.cdf_refusal.specs.declared.Fault.{Fault}
use Rattle.cdf_unit_list.specs.declared.Ranked.{Ranked}
use Rattle.cdf_reader_spec.specs.Place.{ReaderPlace}
use Rattle.cdf_reader_spec.specs.Calls.{Reply, refuse, no_unit, no_ranked}
use Rattle.cdf_reader_spec.specs.Slots.{no_units, no_ranks, place_of}
use Rattle.cdf_reader_cursor.specs.declared.Cursor.{Cursor}
use Rattle.cdf_reader_cursor.specs.declared.Outcome.{Outcome}

abbrev pub cursor_place : Cursor → ReaderPlace
cursor_place c = place_of c.position c.units.count c.units.top c.units.o1 c.units.o2 c.units.o3 c.last c.fresh c.ranks

abbrev pub outcome_reply : Outcome → Reply
outcome_reply a = record { number = 0; offset = 0; handed = a.handed; place = cursor_place a.cursor }

-- A refusal goes with the cursor that is given here: for a start the empty one, for a call the one that it was given.
abbrev pub reply_from : Cursor → Result Outcome Fault → Reply
reply_from c (Ok a) = outcome_reply a
reply_from c (Err f) = refuse (number_of f.refusal) f.offset (cursor_place c)

abbrev pub no_cursor : Cursor
no_cursor = record {
  position = 0;
  units = no_units;
  last = no_unit;
  fresh = false;
  ranks = no_ranks;
}

abbrev pub moving : Cursor → Outcome
moving cursor = record { handed = no_ranked; cursor = cursor }

-- The outcome that hands out a unit.
abbrev pub handing : Ranked → Cursor → Outcome
handing h cursor = record { handed = h; cursor = cursor }
