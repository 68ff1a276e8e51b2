-- The loop keeps that the units left are complete exactly if all are.
use Rattle.std.proofs.Common.{sym, ◌∙◌, arith}
use Rattle.cdf_builder_join.proofs.Parts.{around_is}
use Rattle.cdf_builder_join.proofs.Joins.{completed_on, completed_not, completed_none}
use Rattle.cdf_builder_join.proofs.is_completed.Goals as goal

pub returns-then-not-is_complete : goal.returns-then-not-is_complete
returns-then-not-is_complete c =
    sym (c.loop-left.invariant ∙ completed_not c.args.units _ (omega arith) (sym c.is_complete.ensures ∙ c.if-not-is_complete.true))

pub loop-left-preserved : goal.loop-left-preserved
loop-left-preserved c =
    let next = around_is c.args.units c.loop-left.left c.around.ensures c.default.ensures c.unwrap_or-inner.ensures in
    c.loop-left.invariant
    ∙ completed_on c.args.units _ (omega arith) _ next (sym c.is_complete.ensures ∙ c.if-not-is_complete.false)

pub returns : goal.returns
returns c = sym (c.loop-left.invariant ∙ completed_none c.args.units _ (omega arith))
