-- The loop's invariant is proofs/Scanning's.
use Rattle.std.proofs.Common.{◌-◌, length}
use Rattle.cdf_unit_prefix.specs.Layout.{layout_of}
use Rattle.cdf_rescue.proofs.Scanning.{Scanning}
use Rattle.cdf_rescue.proofs.scan.Given as goal

abbrev pub invariant-loop-at : goal.invariant-loop-at
invariant-loop-at l = Scanning (layout_of l.edition) l.s l.at l.kept l.count l.runs

abbrev pub decreases-loop-at : goal.decreases-loop-at
decreases-loop-at l = length l.s - l.at
