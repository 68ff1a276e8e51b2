-- The cursor that goes with a refusal, and the one that PREVIOUS leaves.
use Rattle.std.specs.Prelude.{◌≡◌, cond, Result, Ok, Err, ⊤}
use Rattle.cdf_refusal.specs.declared.Fault.{Fault}
use Rattle.cdf_reader_spec.specs.Calls.{is_start}
use Rattle.cdf_reader_spec.specs.declared.Call.{Call}
use Rattle.cdf_reader_cursor.specs.Outcomes.{no_cursor}
use Rattle.cdf_reader_cursor.specs.declared.Cursor.{Cursor}
use Rattle.cdf_reader_cursor.specs.declared.Outcome.{Outcome}

-- A refused start leaves the empty one, any other refused call the cursor that it was given.
abbrev pub cursor_kept : Call → Cursor → Cursor
cursor_kept call c = cond (is_start call) no_cursor c

-- The call leaves the cursor that it was given, field by field.
abbrev pub Again : Cursor → Result Outcome Fault → Type 0
Again c (Ok o) = o.cursor ≡ c
Again c (Err f) = ⊤
