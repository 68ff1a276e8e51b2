-- The units that the parts of a place have slots for.
use Rattle.std.specs.Prelude.{cond, leb}
use Rattle.cdf_builder_spec.specs.Place.{BuilderPlace}
use Rattle.cdf_builder_spec.specs.Slots.{place_of}
use Rattle.cdf_builder_spec.specs.declared.Parts.{Parts}

-- The place that parts are; a count past four, which no place that fits has, is taken as four.
abbrev pub held : Parts → BuilderPlace
held p = place_of p.written (cond (leb p.units.count 4) p.units.count 4) p.units.top p.units.o1 p.units.o2 p.units.o3
