-- The loop keeps `Going` (proofs/Closings); what is left falls with each turn.
use Rattle.cdf_reader_spec.specs.Slots.{opened}
use Rattle.cdf_reader_close.proofs.Closings.{Going}
use Rattle.cdf_reader_close.proofs.close.Given as goal

abbrev pub invariant-loop-left : goal.invariant-loop-left
invariant-loop-left l = Going l.position (opened l.units) l.units l.left.count l.left.top

abbrev pub decreases-loop-left : goal.decreases-loop-left
decreases-loop-left l = l.left.count
