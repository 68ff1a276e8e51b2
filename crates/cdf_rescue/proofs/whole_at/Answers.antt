-- By what its prefix and the check tell of the unit at the front.
use Rattle.std.proofs.Common.{ap, sym}
use Rattle.cdf_unit_table.specs.States.{nothing}
use Rattle.cdf_rescue.specs.Parts.{is_headed}
use Rattle.cdf_rescue.proofs.Units.{none_headed, none_checked, whole_within, whole_checked, whole_some}
use Rattle.cdf_rescue.proofs.whole_at.Goals as goal

pub returns-in_default-clause-is : goal.returns-in_default-clause-is
unfolding nothing
returns-in_default-clause-is c = none_headed _ _ (sym (ap is_headed c.in_default.ensures))

pub returns-in-Err-clause-is : goal.returns-in-Err-clause-is
unfolding nothing
returns-in-Err-clause-is c =
    sym (none_checked _ _ _ _ (rw c.in-Err.is at c.check_nested.ensures.answer) (rw c.in-Err.is at c.check_nested.ensures.is))

pub returns-in-Ok-check_nested : goal.returns-in-Ok-check_nested
unfolding nothing
returns-in-Ok-check_nested c =
    let e = sym c.in-Ok.ensures in
    record {
      is = (whole_checked _ _ e _ (rw c.in-Ok-check_nested.is at c.check_nested.ensures.answer), whole_some _ _ e);
      within = whole_within _ _ e;
    }
