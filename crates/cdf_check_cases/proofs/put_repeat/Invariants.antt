-- The bytes stay within the slice.
use Rattle.std.proofs.Common.{◌≤◌, length}
use Rattle.cdf_check_cases.proofs.put_repeat.Given as goal

abbrev pub invariant-loop : goal.invariant-loop
invariant-loop l = l.end ≤ length l.s
