-- The loop's invariant is proofs/Copying's; then proofs/Heading.
use Rattle.cdf_unit_prefix.specs.Layout.{layout_of}
use Rattle.cdf_rescue.proofs.Copying.{Copying}
use Rattle.cdf_rescue.proofs.write_group.Given as goal

abbrev pub invariant-loop-run : goal.invariant-loop-run
invariant-loop-run l = Copying (layout_of l.edition) l.s l.initial.out l.runs l.at l.place l.run-index l.out
