-- The bytes before `at` are copied; the measure is what is left of them.
use Rattle.std.proofs.Common.{◌-◌, length}
use Rattle.cdf_builder_copy.proofs.Copying.{Copied}
use Rattle.cdf_builder_copy.proofs.copy_by.Given as goal

abbrev pub invariant-loop-at : goal.invariant-loop-at
invariant-loop-at g l = Copied l.initial.tail l.bytes l.tail l.at

abbrev pub decreases-loop-at : goal.decreases-loop-at
decreases-loop-at g l = length l.bytes - l.at
