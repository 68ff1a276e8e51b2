-- The number that a call tells: 0 where it succeeds, else its refusal's.
use Rattle.std.specs.Prelude.{ℕ, Result, Ok, Err}
use Rattle.cdf_refusal.specs.Numbers.{number_of}
use Rattle.cdf_refusal.specs.declared.Refusal.{Refusal}

abbrev pub told : {A : Type 0} → Result A Refusal → ℕ
told (Ok a) = 0
told (Err r) = number_of r
