-- Each return by the law of its stage.
use Rattle.std.proofs.Common.{◌≤◌, refl, sym, ap, ◌∙◌, arith, length}
use Rattle.std.proofs.lemmas.Result.{err_from_is_err_and}
use Rattle.cdf_unit_table.proofs.Options.{none_told, some_told}
use Rattle.cdf_unit_prefix.specs.Layout.{layout_of}
use Rattle.cdf_unit_prefix.specs.Rules.{headed}
use Rattle.cdf_unit_judge.proofs.Stages.{bounds, stopped, refused, admitted}
use Rattle.cdf_unit_judge.proofs.judge.Given.{Over}
use Rattle.cdf_unit_judge.proofs.judge.Goals as goal
use Rattle.cdf_unit_judge.proofs.judge.Goals.{After-prefix-p}

pub returns-in_default : goal.returns-in_default
returns-in_default g c =
    rw c.from.ensures
    (refused _ _ _ _ c.head.ensures _ _ (ap headed c.in_ok-header.was) _ refl (none_told _ (sym c.admit.ensures ∙ c.in_default.is)))

-- The bytes after the prefix are there.
lies : (g : Over) (c : After-prefix-p g) →
    (c.prefix-p.result ≤ c.in_ok-header.header.length) × (c.in_ok-header.header.length ≤ length c.args.s.now)
lies g c =
    let fit = bounds (layout_of c.args.edition) _ _ _ c.head.ensures (ap headed c.in_ok-header.was) in
    omega (arith, fit, c.prefix-p.ensures.is)

pub returns-in_err-header : goal.returns-in_err-header
returns-in_err-header g c =
    let p = err_from_is_err_and c.from_residual.result c.from_residual.ensures.1 in
    rw (p.1, p.2) (stopped _ _ _ _ c.head.ensures _ _ (ap headed c.in_err-header.was))

pub returns : goal.returns
returns g c =
    let told = some_told _ _ (sym c.admit.ensures ∙ c.in-Some.is) in
    c.judge_admitted.ensures
    ∙ admitted _ _ _ _ c.head.ensures _ _ (ap headed c.in_ok-header.was) _ told.0 told.1 _ c.prefix-p.ensures.is

pub slice_bounds-judge_admitted-count : goal.slice_bounds-judge_admitted-count
slice_bounds-judge_admitted-count g c = omega (arith, lies g (goal.at.slice_bounds-judge_admitted-count g c).After-prefix-p)

pub slice_bounds-judge_admitted-start : goal.slice_bounds-judge_admitted-start
slice_bounds-judge_admitted-start g c = omega (arith, lies g (goal.at.slice_bounds-judge_admitted-start g c).After-prefix-p)

pub slice_bounds-judge_admitted-end : goal.slice_bounds-judge_admitted-end
slice_bounds-judge_admitted-end g c = omega (arith, lies g (goal.at.slice_bounds-judge_admitted-end g c).After-prefix-p)
