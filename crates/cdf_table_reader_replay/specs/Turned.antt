-- What a call of the table reader answers in the loop, where NEXT tests no place.
use Rattle.std.specs.Prelude.{ℕ, false, cond, List, eqb}
use Rattle.cdf_unit_prefix.specs.Layout.{Layout}
use Rattle.cdf_reader_spec.specs.Calls.{Reply, refuse, call_of}
use Rattle.cdf_reader_spec.specs.declared.Call.{Call}
use Rattle.cdf_reader_spec.specs.declared.Call.TheVariants.{Start, Next, Skip, GetStream, Previous}
use Rattle.cdf_reader_cursor.specs.Outcomes.{cursor_place}
use Rattle.cdf_reader_cursor.specs.declared.Cursor.{Cursor}
use Rattle.cdf_reader_advance.specs.Advancing.{advanced_with}
use Rattle.cdf_table_reader_spec.specs.Calls.{table_first, table_judge}

-- At any cursor and by any table: a start by its row 0; NEXT is 11 where no unit is open, else a step at any place; any other call is the first
-- reader's, with its test of the place.
abbrev pub turned_by : List ℕ → Layout → List ℕ → Cursor → Call → Reply
turned_by table l s c Start = table_first table l s
turned_by table l s c Next =
    cond (eqb c.units.count 0) (refuse 11 0 (cursor_place c)) (advanced_with (table_judge table l false) s (cursor_place c))
turned_by table l s c Skip = call_of l s (cursor_place c) Skip
turned_by table l s c GetStream = call_of l s (cursor_place c) GetStream
turned_by table l s c Previous = call_of l s (cursor_place c) Previous
