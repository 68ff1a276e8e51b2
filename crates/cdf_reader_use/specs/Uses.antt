-- Which calls have something to do, by the parts of a place that decide it: how many units are open, whether the last unit may
-- still be skipped, and its id. What the reader promises is stated without this file.
use Rattle.std.specs.Prelude.{ℕ, Bool, true, not, ◌&&◌, eqb}
use Rattle.cdf_unit_table.specs.States.{opens}
use Rattle.cdf_reader_spec.specs.Calls.{is_group}
use Rattle.cdf_reader_spec.specs.declared.Call.{Call}
use Rattle.cdf_reader_spec.specs.declared.Call.TheVariants.{Start, Next, Skip, GetStream, Previous}

abbrev pub may_pass : ℕ → Bool → ℕ → Bool
may_pass count fresh id = not (eqb count 0) && (fresh && opens id)

-- Not 11.
abbrev pub has_use : Call → ℕ → Bool → ℕ → Bool
has_use Start count fresh id = true
has_use Next count fresh id = not (eqb count 0)
has_use Skip count fresh id = may_pass count fresh id
has_use GetStream count fresh id = may_pass count fresh id && is_group id
has_use Previous count fresh id = not (eqb count 0)
