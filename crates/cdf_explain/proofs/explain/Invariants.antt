-- The loop ends, since each unit comes further.
use Rattle.std.proofs.Common.{◌≡◌, List}
use Rattle.cdf_unit_prefix.specs.Layout.{layout_of}
use Rattle.cdf_unit_data.specs.Standing.{name_row}
use Rattle.cdf_unit_list.specs.declared.Unit.{Unit}
use Rattle.cdf_reader.specs.View.{reply_from}
use Rattle.cdf_reader.proofs.Walking.{left, Inside}
use Rattle.cdf_reader_runs.proofs.Looping.{Going}
use Rattle.cdf_explain.proofs.explain.Given as goal

abbrev pub invariant-loop-next : goal.invariant-loop-next
invariant-loop-next l =
    ((before : List Unit) × Going (layout_of l.edition) l.s before (reply_from l.place l.next))
    × Inside (layout_of l.edition) l.s l.next
    × (l.row ≡ name_row)

abbrev pub decreases-loop-next : goal.decreases-loop-next
decreases-loop-next l = left (layout_of l.edition) l.s l.next
