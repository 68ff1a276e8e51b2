-- By what head tells, and whether an E/R group takes the unit.
use Rattle.std.specs.Prelude.{is_some}
use Rattle.std.proofs.Common.{ap, ◌∙◌}
use Rattle.cdf_unit_table.specs.States.{nothing}
use Rattle.cdf_unit_table.proofs.Options.{told_is}
use Rattle.cdf_rescue.specs.Parts.{is_headed}
use Rattle.cdf_rescue.proofs.is_headed.Goals as goal

pub returns-in_default : goal.returns-in_default
returns-in_default c = ap is_headed c.in_default.ensures

pub returns : goal.returns
unfolding nothing
returns c =
    c.is_some.ensures ∙ ap (λ o. is_some o) c.state_after.ensures ∙ told_is _ ∙ ap is_headed c.in-Ok.ensures
