-- The units are folded as they come, and what was found lies in the bytes.
use Rattle.std.proofs.Common.{◌≡◌, length}
use Rattle.cdf_unit_prefix.specs.Layout.{layout_of}
use Rattle.cdf_unit_data.specs.Standing.{name_row}
use Rattle.cdf_reader.specs.View.{reply_from}
use Rattle.cdf_reader.specs.declared.Place.{Place}
use Rattle.cdf_reader.proofs.Walking.{left, Inside}
use Rattle.cdf_reader_runs.proofs.Folding.{Going}
use Rattle.cdf_lookup_spec.specs.Told.{query_of}
use Rattle.cdf_lookup_spec.specs.Search.{outcome_of}
use Rattle.cdf_lookup_spec.specs.declared.Search.TheVariants.{Seeking}
use Rattle.cdf_lookup_search.specs.Placed.{Placed}
use Rattle.cdf_lookup_search.proofs.Searched.{seek}
use Rattle.cdf_lookup_search.proofs.walk.Given as goal

abbrev pub invariant-loop-next : goal.invariant-loop-next
invariant-loop-next l =
    ((p : Place)
    × Going (seek (layout_of l.edition) l.s (query_of l.asked)) (layout_of l.edition) l.s Seeking (reply_from p l.next) l.state)
    × Inside (layout_of l.edition) l.s l.next
    × Placed (length l.s) (outcome_of l.state)
    × (l.row ≡ name_row)

abbrev pub decreases-loop-next : goal.decreases-loop-next
decreases-loop-next l = left (layout_of l.edition) l.s l.next
