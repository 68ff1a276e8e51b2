-- The loop's invariant is proofs/Spans'.
use Rattle.cdf_unit_prefix.specs.Layout.{layout_of}
use Rattle.cdf_rescue.proofs.Spans.{Passed}
use Rattle.cdf_rescue.proofs.next_whole.Given as goal

abbrev pub invariant-loop-at : goal.invariant-loop-at
invariant-loop-at l = Passed (layout_of l.edition) l.s l.from l.at
