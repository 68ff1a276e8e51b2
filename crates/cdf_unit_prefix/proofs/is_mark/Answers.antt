-- By the edition's second byte.
use Rattle.cdf_unit_prefix.specs.Layout.{marked}
use Rattle.cdf_unit_prefix.proofs.is_mark.Goals as goal

pub returns : goal.returns
unfolding marked
returns c = rw c.second_mark.ensures
