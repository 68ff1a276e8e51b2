-- By one look into the row.
use Rattle.std.proofs.Common.{refl}
use Rattle.cdf_unit_name.proofs.is_later.Goals as goal

pub returns : goal.returns
returns c = refl
