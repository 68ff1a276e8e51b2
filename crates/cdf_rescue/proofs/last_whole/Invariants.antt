-- The loop's invariant is proofs/Spans'.
use Rattle.std.proofs.Common.{◌-◌, length}
use Rattle.cdf_unit_prefix.specs.Layout.{layout_of}
use Rattle.cdf_rescue.proofs.Spans.{Kept}
use Rattle.cdf_rescue.proofs.last_whole.Given as goal

abbrev pub invariant-loop-length : goal.invariant-loop-length
invariant-loop-length l = Kept (layout_of l.edition) l.s l.from l.at

abbrev pub decreases-loop-length : goal.decreases-loop-length
decreases-loop-length l = length l.s - l.at
