-- By the definition.
use Rattle.std.proofs.Common.{refl}
use Rattle.cdf_unit_prefix.specs.Layout.{edition_of}
use Rattle.cdf_unit_prefix.proofs.edition_of.Goals as goal

pub returns : goal.returns
unfolding edition_of
returns c = refl
