-- The answers that the check gives, as the cases of `Checked` and as document 01 numbers them.
use Rattle.std.specs.Prelude.{ℕ, length, Result, Ok, Err}
use Rattle.cdf_unit_list.specs.Units.{End, unfinished, ended, fault, Listing}
use Rattle.cdf_unit_list.specs.Check.{Verdict}
use Rattle.cdf_refusal.specs.Numbers.{number_of}
use Rattle.cdf_refusal.specs.declared.Fault.{Fault}

-- The number of units of a right stream, or the first fault's number and offset.
pub data Checked : Type 0 where
  Accepted : ℕ → Checked
  Refused : ℕ → ℕ → Checked

-- What an answer of the code says.
abbrev pub checked : Result ℕ Fault → Checked
checked (Ok n) = Accepted n
checked (Err f) = Refused (number_of f.refusal) f.offset

-- `unfinished` is given a number that 01 does not have; no bytes reach it.
unfoldable pub checked_by : ℕ → End → Checked
checked_by count unfinished = Refused 99 0
checked_by count ended = Accepted count
checked_by count (fault n at) = Refused n at

-- The case for a unit list: the number of its units, or its fault.
unfoldable pub checked_of : Listing → Checked
unfolding checked_by
checked_of r = checked_by (length r.units) r.end

-- The number and the value that 01 gives a case: 0 with the count, or the fault's number and offset.
unfoldable pub as_answer : Checked → Verdict
as_answer (Accepted count) = record { number = 0; value = count }
as_answer (Refused n at) = record { number = n; value = at }
