-- The tests of the definition.
use Rattle.cdf_builder_fit.proofs.is_inside.Goals as goal

pub returns : goal.returns
returns c = rw (c.is_unskipped.ensures, c.nests.ensures, c.is_past.ensures)
