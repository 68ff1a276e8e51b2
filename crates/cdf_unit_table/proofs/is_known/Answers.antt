-- The definition, to the letter.
use Rattle.std.proofs.Common.{refl}
use Rattle.cdf_unit_table.specs.Ids.{known}
use Rattle.cdf_unit_table.proofs.is_known.Goals as goal

pub returns : goal.returns
unfolding known
returns c = refl
