-- What a rescue tells, with the dropped runs in entries.
use Rattle.std.specs.Prelude.{ℕ, ◌-◌, List, ◌++◌, length, replicate, Result, Ok, Err}
use Rattle.cdf_refusal.specs.Numbers.{number_of}
use Rattle.cdf_refusal.specs.declared.Refusal.{Refusal}
use Rattle.cdf_rescue_spec.specs.Salvage.{Rescued, refusal, most_runs}
use Rattle.cdf_rescue_spec.specs.declared.Run.{Run}
use Rattle.cdf_rescue.specs.declared.Report.{Report}

-- The runs in 64 entries, and zeros in those that are not used.
abbrev pub entries : List Run → List Run
entries runs = runs ++ replicate (most_runs - length runs) (record { from = 0; to = 0 })

-- The number, how many bytes the group has, how many runs there are, and these in entries.
pub record Told : Type 0 where
  pub number : ℕ
  pub size : ℕ
  pub count : ℕ
  pub runs : List Run

unfoldable pub report_of : Rescued → Told
report_of r = record {
  number = r.number;
  size = length r.group;
  count = length r.runs;
  runs = entries r.runs;
}

-- What the code tells; a refusal tells no run.
abbrev pub told_of : Result Report Refusal → Told
told_of (Ok r) = record { number = 0; size = r.size; count = r.count; runs = r.runs }
told_of (Err r) = report_of (refusal (number_of r))
