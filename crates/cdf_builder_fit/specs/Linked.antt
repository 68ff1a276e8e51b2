-- The clauses of a builder's place on its open units, taken together for the outermost, and for each other with the one outside it. No
-- contract that is open to callers cites this file; the rule itself is `fits`.
use Rattle.std.specs.Prelude.{◌+◌, Bool, ◌&&◌, List, leb, eqb}
use Rattle.cdf_unit_table.specs.States.{unit_of, root_kind, admits_kind}
use Rattle.cdf_unit_prefix.specs.Layout.{Layout, prefix_of}
use Rattle.cdf_reader_spec.specs.Place.{nested}
use Rattle.cdf_builder_spec.specs.declared.Begun.{Begun}
use Rattle.cdf_builder_spec.specs.Place.{buildable}

abbrev pub outermost : Begun → Bool
outermost o = buildable o.state && (root_kind (unit_of o.state) && eqb o.start 0)

abbrev pub inside : Layout → Begun → Begun → Bool
inside l p o = buildable o.state && (admits_kind (unit_of p.state) (unit_of o.state) && leb (p.start + prefix_of l) o.start)

unfoldable pub linked : Layout → List Begun → Bool
unfolding nested
linked l os = nested outermost (inside l) os
