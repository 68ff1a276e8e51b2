-- The units are met as they come, each with the one behind it.
use Rattle.std.proofs.Common.{◌≡◌, true}
use Rattle.cdf_unit_prefix.specs.Layout.{layout_for}
use Rattle.cdf_unit_data.specs.Standing.{name_row}
use Rattle.cdf_unit_list.specs.Units.{listing}
use Rattle.cdf_reader.proofs.Walking.{left}
use Rattle.cdf_lookup_spec.specs.Find.{is_group}
use Rattle.cdf_resolve_spec.proofs.Pairing.{Orderly}
use Rattle.cdf_resolve.proofs.Walking.{Walking}
use Rattle.cdf_resolve.proofs.pass.Given as goal

abbrev pub invariant-loop-next : goal.invariant-loop-next
invariant-loop-next l =
    (o : Orderly (layout_for l.s) l.s) × (group : is_group (listing (layout_for l.s) l.s).units ≡ true)
    × Walking (layout_for l.s) l.s o group l.initial.list l.next l.owner l.t l.held l.list
    × (l.row ≡ name_row)

abbrev pub decreases-loop-next : goal.decreases-loop-next
decreases-loop-next l = left (layout_for l.s) l.s l.next
