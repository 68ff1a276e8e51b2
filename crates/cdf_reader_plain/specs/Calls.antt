-- What is compared of each answer.
use Rattle.std.specs.Prelude.{ℕ}
use Rattle.cdf_unit_list.specs.declared.Ranked.{Ranked}
use Rattle.cdf_reader_spec.specs.Calls.{no_ranked, Part, no_part}

-- The number and the offset, the part taken, and the unit handed out with its depth and rank; zeros where there is none.
pub record Told : Type 0 where
  pub number : ℕ
  pub offset : ℕ
  pub part : Part
  pub handed : Ranked

-- An answer that hands out a unit, one with a part that is taken, and one with neither.
abbrev pub handing : Ranked → Told
handing u = record { number = 0; offset = 0; part = no_part; handed = u }

abbrev pub taking : Part → Told
taking part = record { number = 0; offset = 0; part = part; handed = no_ranked }

abbrev pub saying : ℕ → Told
saying n = record { number = n; offset = 0; part = no_part; handed = no_ranked }
