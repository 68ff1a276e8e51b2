-- By the case of the root.
use Rattle.cdf_unit_prefix.specs.Layout.{length_fits}
use Rattle.cdf_unit_prefix.proofs.length_fits.Goals as goal

pub returns-then-root : goal.returns-then-root
unfolding length_fits
returns-then-root c = rw (c.if-root.true, c.limit-most.ensures)

pub returns : goal.returns
unfolding length_fits
returns c = rw c.if-root.false
