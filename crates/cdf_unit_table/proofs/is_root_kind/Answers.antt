-- The definition, to the letter but for the empty end of its list.
use mathlib.Core.Bool.{or-false}
use Rattle.cdf_unit_table.specs.Ids.{member}
use Rattle.cdf_unit_table.specs.States.{root_kind}
use Rattle.cdf_unit_table.proofs.is_root_kind.Goals as goal

pub returns : goal.returns
unfolding root_kind member
returns c = simp or-false
