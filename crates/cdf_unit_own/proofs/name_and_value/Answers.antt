-- By the cases of the name.
use Rattle.std.proofs.Common.{rules, sym, ◌∙◌}
use Rattle.cdf_unit_data.specs.Data.{value_after}
use Rattle.cdf_unit_data.proofs.Taken.{name_short}
use Rattle.cdf_unit_own.proofs.name_and_value.Goals as goal

pub value-requires : goal.value-requires
value-requires g c = name_short _ _ _ (sym c.name.ensures ∙ c.in_ok-end.was)

pub returns : goal.returns
unfolding value_after
returns g c = rw (← c.name.ensures, c.in_ok-end.was) c.value.ensures

pub returns-in_err-end : goal.returns-in_err-end
unfolding value_after
returns-in_err-end g c = rw (← c.name.ensures, c.in_err-end.was) (search rules)
