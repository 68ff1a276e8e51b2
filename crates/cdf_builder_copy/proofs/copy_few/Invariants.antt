-- The first i bytes are copied.
use Rattle.cdf_builder_copy.proofs.Copying.{Copied}
use Rattle.cdf_builder_copy.proofs.copy_few.Given as goal

abbrev pub invariant-loop-i : goal.invariant-loop-i
invariant-loop-i l = Copied l.initial.tail l.bytes l.tail l.i
