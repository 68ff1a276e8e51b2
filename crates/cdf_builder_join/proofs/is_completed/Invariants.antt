-- The loop keeps that the units left are complete exactly if all are.
use Rattle.std.proofs.Common.{◌≡◌}
use Rattle.cdf_builder_spec.specs.Requests.{completed}
use Rattle.cdf_builder_spec.specs.Slots.{units, begun}
use Rattle.cdf_builder_join.proofs.is_completed.Given as goal

abbrev pub invariant-loop-left : goal.invariant-loop-left
invariant-loop-left l = completed (begun l.units) ≡ completed (units l.left l.inner l.units.o1 l.units.o2 l.units.o3)
