-- What a call of the first reader answers in the loop, which tests no place.
use Rattle.std.specs.Prelude.{ℕ, cond, List}
use Rattle.cdf_unit_prefix.specs.Layout.{Layout}
use Rattle.cdf_unit_data.specs.Data.{NameBytes}
use Rattle.cdf_reader_spec.specs.Calls.{Reply, refuse, move_to, passed, first_of}
use Rattle.cdf_reader_spec.specs.declared.Call.{Call}
use Rattle.cdf_reader_spec.specs.declared.Call.TheVariants.{Start, Next, Skip, GetStream, Previous}
use Rattle.cdf_reader_use.specs.Uses.{has_use}
use Rattle.cdf_reader_cursor.specs.Outcomes.{cursor_place}
use Rattle.cdf_reader_cursor.specs.declared.Cursor.{Cursor}
use Rattle.cdf_reader_advance.specs.Advancing.{advanced_by}
use Rattle.cdf_reader_step.specs.Depth.{depth_by}

-- At any cursor: a start, a step at any place, past the last unit, or the last unit again.
abbrev pub does_by : NameBytes → Layout → List ℕ → Cursor → Call → Reply
does_by w l s c Start = first_of l s
does_by w l s c Next = advanced_by w l s (cursor_place c)
does_by w l s c Skip = move_to (passed (cursor_place c))
does_by w l s c GetStream = move_to (passed (cursor_place c))
does_by w l s c Previous = record {
  number = 0;
  offset = 0;
  handed = record { unit = c.last; depth = depth_by c; rank = c.ranks.last };
  place = cursor_place c;
}

-- Where the call has a use; else 11.
abbrev pub turned_by : NameBytes → Layout → List ℕ → Cursor → Call → Reply
turned_by w l s c call = cond (has_use call c.units.count c.fresh c.last.id) (does_by w l s c call) (refuse 11 0 (cursor_place c))
