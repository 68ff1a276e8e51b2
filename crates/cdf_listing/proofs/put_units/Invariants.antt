-- The loop ends, since each unit comes further.
use Rattle.std.proofs.Common.{◌≡◌}
use Rattle.cdf_unit_prefix.specs.Layout.{layout_of}
use Rattle.cdf_unit_data.specs.Standing.{name_row}
use Rattle.cdf_unit_prefix.specs.declared.Edition.TheVariants.{First}
use Rattle.cdf_reader.proofs.Walking.{left}
use Rattle.cdf_listing.proofs.Lining.{Lined}
use Rattle.cdf_listing.proofs.put_units.Given as goal

abbrev pub invariant-loop-next : goal.invariant-loop-next
invariant-loop-next l = Lined l.s l.initial.out l.next l.out l.at × (l.row ≡ name_row)

abbrev pub decreases-loop-next : goal.decreases-loop-next
decreases-loop-next l = left (layout_of First) l.s l.next
