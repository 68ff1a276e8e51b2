-- Which place of document 01 the parts of a struct are. It holds the innermost open unit by itself and the units around it by
-- their level, as the reader's does.
use Rattle.std.specs.Prelude.{ℕ, List}
use Rattle.cdf_open_units.specs.declared.OpenUnits.{OpenUnits}
use Rattle.cdf_reader_spec.specs.Slots.{held_of}
use Rattle.cdf_builder_spec.specs.Place.{BuilderPlace}
use Rattle.cdf_builder_spec.specs.declared.Begun.{Begun}
use Rattle.cdf_builder_spec.specs.declared.Parts.{Parts}

abbrev pub no_begun : Begun
no_begun = record { state = 0; start = 0 }

-- So many open units, the innermost first.
abbrev pub units : ℕ → Begun → Begun → Begun → Begun → List Begun
units count top o1 o2 o3 = held_of no_begun count top o1 o2 o3

-- Those that a struct holds, and a struct of none: zeros.
abbrev pub begun : OpenUnits Begun → List Begun
begun u = units u.count u.top u.o1 u.o2 u.o3

abbrev pub no_units : OpenUnits Begun
no_units = record { count = 0; top = no_begun; o1 = no_begun; o2 = no_begun; o3 = no_begun }

abbrev pub place_of : ℕ → ℕ → Begun → Begun → Begun → Begun → BuilderPlace
place_of written count top o1 o2 o3 = record { written = written; units = units count top o1 o2 o3 }

abbrev pub placed : Parts → BuilderPlace
placed p = place_of p.written p.units.count p.units.top p.units.o1 p.units.o2 p.units.o3
