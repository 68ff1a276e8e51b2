-- The numbers of the refusals: document 01's 1 to 13, those of the requests in document 02 from 14 on, and one that no call gives.
use Rattle.std.specs.Prelude.{ℕ, Result, Ok, Err}
use Rattle.cdf_refusal.specs.declared.Refusal.{Refusal}
use Rattle.cdf_refusal.specs.declared.Refusal.TheVariants.{Ended, Place, Short, Mark, Length, UnknownId, NotAdmitted, Action, OwnData, Incomplete, NoUse}
use Rattle.cdf_refusal.specs.declared.Refusal.TheVariants.{NoRoom, TooLong, NoGroup, NoValue, NothingKept, TooManyRuns, TooManyTemplates}
use Rattle.cdf_refusal.specs.declared.Refusal.TheVariants.{DoubledTemplate, NoTemplate, TooManyRequests, NoStep}

abbrev pub number_of : Refusal → ℕ
number_of Ended = 1
number_of Place = 2
number_of Short = 3
number_of Mark = 4
number_of Length = 5
number_of UnknownId = 6
number_of NotAdmitted = 7
number_of Action = 8
number_of OwnData = 9
number_of Incomplete = 10
number_of NoUse = 11
number_of NoRoom = 12
number_of TooLong = 13
number_of NoGroup = 14
number_of NoValue = 15
number_of NothingKept = 16
number_of TooManyRuns = 17
number_of TooManyTemplates = 18
number_of DoubledTemplate = 19
number_of NoTemplate = 20
number_of TooManyRequests = 21
number_of NoStep = 99

-- The number and the count of a call that answers a count.
abbrev pub number_in : Result ℕ Refusal → ℕ
number_in (Ok count) = 0
number_in (Err refusal) = number_of refusal

abbrev pub count_in : Result ℕ Refusal → ℕ
count_in (Ok count) = count
count_in (Err refusal) = 0
