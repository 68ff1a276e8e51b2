-- `check_nested` meets its contract: the answers are the unit list's one level down (proofs/Exact).
use Rattle.std.proofs.Common.{sym, ◌∙◌, false}
use Rattle.cdf_unit_judge.proofs.Stages.{nested_is as judged_is}
use Rattle.cdf_check.proofs.Exact.{nested_is}
use Rattle.cdf_check.proofs.check_nested.Goals as goal

pub check_front-requires : goal.check_front-requires
check_front-requires c = (false, _, sym (c.judge-found.ensures ∙ judged_is _ _ _ _))

pub returns : goal.returns
returns c =
    let all = nested_is _ _ _ _ c.check_front.ensures _ (c.judge-found.ensures ∙ judged_is _ _ _ _) in
    record { answer = all.0; is = all.1 }
