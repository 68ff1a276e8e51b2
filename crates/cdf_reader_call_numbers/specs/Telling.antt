-- What is told of a call's result, and what is left of the place that some numbers are.
use Rattle.std.specs.Prelude.{ℕ, ◌≡◌, cond, List, Result, Ok, Err}
use Rattle.cdf_refusal.specs.Numbers.{number_of}
use Rattle.cdf_refusal.specs.declared.Fault.{Fault}
use Rattle.cdf_unit_list.specs.declared.Unit.{Unit}
use Rattle.cdf_reader_spec.specs.Calls.{no_part, no_ranked, empty_place}
use Rattle.cdf_reader_spec.specs.declared.Call.{Call}
use Rattle.cdf_reader_spec.specs.declared.Call.TheVariants.{Previous}
use Rattle.cdf_reader.specs.View.{reply_from}
use Rattle.cdf_reader.specs.Uses.{place_kept, Again}
use Rattle.cdf_reader.specs.declared.Answer.{Answer}
use Rattle.cdf_reader_numbers.specs.Numbers.{place_from, numbers_of, answer_numbers, numbers_kept, keeps, reply_to, Called}
use Rattle.cdf_reader_numbers.specs.Taking.{part_by}

-- Of any result the number: 0 beside an answer, else the refusal's.
abbrev pub number_told : Result Answer Fault → ℕ
number_told (Ok a) = 0
number_told (Err f) = number_of f.refusal

-- The place's numbers after it: an answer's, which PREVIOUS does not write; after a refusal those that stood there, after a start's zeros.
abbrev pub place_told : Call → Result Answer Fault → List ℕ → List ℕ
place_told call (Ok a) before = cond (keeps call 0) before (numbers_of a.place)
place_told call (Err f) before = numbers_kept call before

-- The answer's numbers: the unit handed out, and beside GET_STREAM the last unit's bytes as the part; of a refusal the offset alone.
abbrev pub answer_told : Call → Result Answer Fault → Unit → List ℕ
answer_told call (Ok a) last =
    answer_numbers (record { number = 0; offset = 0; handed = a.handed; place = empty_place }) (part_by call 0 last.start last.end)
answer_told call (Err f) last =
    answer_numbers (record { number = 0; offset = f.offset; handed = no_ranked; place = empty_place }) no_part

-- If it is what is due to the call in some bytes, then what is promised of that call.
abbrev pub Tells : Call → Result Answer Fault → Unit → List ℕ → ℕ → List ℕ → List ℕ → Type 0
Tells c told last before number after answer =
    (s : List ℕ) → last ≡ (place_from before).last → reply_from (place_kept c (place_from before)) told ≡ reply_to c s before →
    (c ≡ Previous → Again (place_from before) told) → Called c s before number after answer
