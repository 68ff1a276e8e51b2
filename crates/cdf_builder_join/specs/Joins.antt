-- What is told of where a unit joins: the rule that is broken, and the units then left open.
use Rattle.std.specs.Prelude.{ℕ, List, [], Result, Ok, Err}
use Rattle.cdf_refusal.specs.Numbers.{number_of}
use Rattle.cdf_refusal.specs.declared.Refusal.{Refusal}
use Rattle.cdf_refusal.specs.declared.Refusal.TheVariants.{NotAdmitted, Incomplete}
use Rattle.cdf_open_units.specs.declared.OpenUnits.{OpenUnits}
use Rattle.cdf_open_units.specs.declared.Left.{Left}
use Rattle.cdf_builder_spec.specs.Slots.{units}
use Rattle.cdf_builder_spec.specs.declared.Begun.{Begun}
use Rattle.cdf_builder_join.specs.declared.Unjoined.{Unjoined}
use Rattle.cdf_builder_join.specs.declared.Unjoined.TheVariants.{Nowhere, Past}

abbrev pub refusal_of : Unjoined → Refusal
refusal_of Nowhere = NotAdmitted
refusal_of (Past j) = Incomplete

abbrev pub number_told : Result (Left Begun) Unjoined → ℕ
number_told (Ok j) = 0
number_told (Err u) = number_of (refusal_of u)

-- The units left open, those around the innermost by their level.
abbrev pub left_open : OpenUnits Begun → Result (Left Begun) Unjoined → List Begun
left_open u (Ok j) = units j.count j.top u.o1 u.o2 u.o3
left_open u (Err (Past j)) = units j.count j.top u.o1 u.o2 u.o3
left_open u (Err Nowhere) = []
