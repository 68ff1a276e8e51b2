-- What is known of a body where a unit is made of it. No contract that is open to callers cites this file.
use Rattle.std.specs.Prelude.{◌<◌}
use Rattle.cdf_unit_judge.specs.Judge.{Body, Action, Data, Whole}

-- What it takes, and the byte that offends, lie in bytes that a slice can have.
abbrev pub Short : Body → Type 0
Short Action = record {}
Short (Data k) = k < 9223372036854775808
Short (Whole k) = k < 9223372036854775808
