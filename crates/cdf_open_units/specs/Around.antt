-- Which unit stands around another.
use Rattle.std.specs.Prelude.{ℕ, cond, eqb, Option, None, Some}
use Rattle.cdf_open_units.specs.declared.OpenUnits.{OpenUnits}

-- The unit around the innermost, where so many of these are left; none around the outermost, and none where there is no room for it.
abbrev pub around : {U : Type 0} → OpenUnits U → ℕ → Option U
around os count = cond (eqb count 2) (Some os.o1) (cond (eqb count 3) (Some os.o2) (cond (eqb count 4) (Some os.o3) None))
