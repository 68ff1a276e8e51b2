-- The builder's struct and the parts of a place that the calls below are given, one to one.
use Rattle.cdf_builder_spec.specs.declared.Parts.{Parts}
use Rattle.cdf_builder.specs.declared.Builder.{Builder}

abbrev pub parts_of : Builder → Parts
parts_of b = record { written = b.written; units = b.units }

abbrev pub builder_of : Parts → Builder
builder_of p = record { written = p.written; units = p.units }
