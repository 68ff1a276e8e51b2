-- The tests of the definition.
use Rattle.cdf_reader_open.proofs.is_outermost.Goals as goal

pub returns : goal.returns
returns c = rw c.is_root.ensures
