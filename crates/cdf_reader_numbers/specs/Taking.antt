-- The part that goes with a call, as `Part::of` finds it. No contract of a function for C cites this file.
use Rattle.std.specs.Prelude.{ℕ, ◌-◌, Bool, true, false, cond, ◌&&◌, eqb}
use Rattle.cdf_reader_spec.specs.Calls.{Part, no_part}
use Rattle.cdf_reader_spec.specs.declared.Call.{Call}
use Rattle.cdf_reader_spec.specs.declared.Call.TheVariants.{Start, Next, Skip, GetStream, Previous}
use Rattle.cdf_reader_numbers.specs.declared.Part.{Part as CodePart}

-- The part that the code's is.
abbrev pub part_is : CodePart → Part
part_is p = record { start = p.start; size = p.size }

-- Of the calls only GET_STREAM takes a part, the last unit's bytes.
abbrev pub is_take : Call → Bool
is_take Start = false
is_take Next = false
is_take Skip = false
is_take GetStream = true
is_take Previous = false

abbrev pub part_by : Call → ℕ → ℕ → ℕ → Part
part_by c number from end = cond (is_take c && eqb number 0) (record { start = from; size = end - from }) no_part
