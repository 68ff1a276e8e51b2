-- Each return by the law of its stage.
use Rattle.std.proofs.Common.{sym, ap, ◌∙◌, true}
use Rattle.std.proofs.lemmas.Bool.{not-true, not-false}
use Rattle.std.proofs.lemmas.Result.{err_from_is_err_and}
use Rattle.cdf_unit_table.specs.States.{admits}
use Rattle.cdf_unit_table.proofs.Rows.{root_opens}
use Rattle.cdf_unit_table.proofs.Options.{some_told, told_some}
use Rattle.cdf_unit_prefix.specs.Rules.{headed}
use Rattle.cdf_unit_judge.proofs.Stages.{stopped, in_is, root_other, root_acts, root_found}
use Rattle.cdf_unit_judge.proofs.judge_root.Goals as goal

pub returns-then-not-is_root_kind : goal.returns-then-not-is_root_kind
returns-then-not-is_root_kind c =
    let kind = c.is_root_kind in
    rw c.from.ensures
    (root_other _ _ _ c.head.ensures (ap headed c.in_ok-header.was)
    (sym kind.ensures ∙ not-true kind.result c.if-not-is_root_kind.true-raw))

pub returns-then-header-ne-NONE : goal.returns-then-header-ne-NONE
returns-then-header-ne-NONE c =
    rw c.from-then-header-ne-NONE.ensures
    (root_acts _ _ _ c.head.ensures (ap headed c.in_ok-header.was)
    (sym c.is_root_kind.ensures ∙ not-false c.is_root_kind.result c.if-not-is_root_kind.false-raw) c.if-header-ne-NONE.true)

pub returns-in_err-header : goal.returns-in_err-header
returns-in_err-header c =
    let p = err_from_is_err_and c.from_residual.result c.from_residual.ensures.1 in
    rw (p.1, p.2)
    (stopped _ _ _ _ c.head.ensures _ (admits true 0) (ap headed c.in_err-header.was) ∙ in_is _ _ _ _ _)

pub unwrap-state-requires : goal.unwrap-state-requires
unwrap-state-requires c =
    let kind = sym c.is_root_kind.ensures ∙ not-false c.is_root_kind.result c.if-not-is_root_kind.false-raw in
    rw c.first_state.ensures (told_some _ (root_opens _ kind))

pub returns : goal.returns
returns c =
    let told = some_told _ _ (sym c.first_state.ensures ∙ c.unwrap-state.ensures) in
    rw (c.prefix-own.ensures.is, told.0)
    (root_found _ _ _ c.head.ensures (ap headed c.in_ok-header.was)
    (sym c.is_root_kind.ensures ∙ not-false c.is_root_kind.result c.if-not-is_root_kind.false-raw) c.if-header-ne-NONE.false)
