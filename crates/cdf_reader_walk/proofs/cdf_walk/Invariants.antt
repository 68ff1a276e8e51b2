-- The loop ends, since each unit comes further.
use Rattle.std.proofs.Common.{◌≡◌}
use Rattle.cdf_unit_prefix.specs.Layout.{layout_of}
use Rattle.cdf_unit_data.specs.Standing.{name_row}
use Rattle.cdf_reader.specs.View.{reply_from}
use Rattle.cdf_reader.specs.declared.Place.{Place}
use Rattle.cdf_reader.proofs.Walking.{left, Inside}
use Rattle.cdf_reader_runs.proofs.Folding.{Going}
use Rattle.cdf_reader_walk.specs.Fold.{mix_of}
use Rattle.cdf_reader_walk.proofs.cdf_walk.Given as goal

abbrev pub invariant-loop-next : goal.invariant-loop-next
invariant-loop-next l =
    ((p : Place) × Going mix_of (layout_of l.edition) l.s 0 (reply_from p l.next) l.h) × Inside (layout_of l.edition) l.s l.next
    × (l.row ≡ name_row)

abbrev pub decreases-loop-next : goal.decreases-loop-next
decreases-loop-next l = left (layout_of l.edition) l.s l.next
