-- The number is the one that is defined.
use Rattle.std.proofs.Common.{refl}
use Rattle.cdf_version_c.specs.Version.{version}
use Rattle.cdf_version_c.proofs.cdf_version.Goals as goal

pub returns : goal.returns
unfolding version
returns c = refl
