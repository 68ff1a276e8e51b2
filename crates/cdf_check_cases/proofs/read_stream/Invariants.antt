-- The bytes stay within the slice.
use Rattle.std.proofs.Common.{◌≤◌, length}
use Rattle.cdf_check_cases.proofs.read_stream.Given as goal

abbrev pub invariant-loop : goal.invariant-loop
invariant-loop g l = l.n ≤ length l.s
