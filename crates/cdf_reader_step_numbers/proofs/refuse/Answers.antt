-- The numbers in their order.
use Rattle.std.proofs.Common.{refl}
use Rattle.cdf_reader_step_numbers.proofs.refuse.Goals as goal

pub returns : goal.returns
returns c = refl
