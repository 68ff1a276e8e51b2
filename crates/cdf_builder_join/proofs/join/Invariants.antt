-- The loop keeps `Going` (proofs/Joins).
use Rattle.cdf_builder_spec.specs.Slots.{begun}
use Rattle.cdf_builder_join.proofs.Joins.{Going}
use Rattle.cdf_builder_join.proofs.join.Given as goal

abbrev pub invariant-loop-left : goal.invariant-loop-left
invariant-loop-left l = Going l.id (begun l.units) l.units l.left l.inner l.full
