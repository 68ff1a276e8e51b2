-- What a turn comes to.
use Rattle.std.specs.Prelude.{Result, Ok, Err}
use Rattle.cdf_refusal.specs.declared.Fault.{Fault}
use Rattle.cdf_reader_cursor.specs.Entering.{entering}
use Rattle.cdf_reader_cursor.specs.declared.Cursor.{Cursor}
use Rattle.cdf_reader_cursor.specs.declared.Outcome.{Outcome}
use Rattle.cdf_reader_turn.specs.declared.Reading.{Reading}

-- The unit is entered.
abbrev pub turned : Cursor → Result Reading Fault → Result Outcome Fault
turned c (Ok t) = Ok (entering c t.left.count t.left.top t.handed t.next)
turned c (Err f) = Err f
