-- The operations are those of the definition.
use Rattle.std.proofs.Common.{refl}
use Rattle.cdf_reader_walk.proofs.mix.Goals as goal

pub returns : goal.returns
returns c = refl
