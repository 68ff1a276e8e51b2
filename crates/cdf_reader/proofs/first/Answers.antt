-- The start in that edition.
use Rattle.cdf_reader.proofs.first.Goals as goal

pub returns : goal.returns
returns c = rw (← c.edition_of.ensures) c.first_as.ensures
