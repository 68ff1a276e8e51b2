-- The place as it is given.
use Rattle.cdf_reader_step_numbers.proofs.write_inside.Goals as goal

pub returns : goal.returns
returns c = c.write_place.ensures
