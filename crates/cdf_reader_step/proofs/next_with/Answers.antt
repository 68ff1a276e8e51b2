-- 11, 2, and else a step (proofs/Nexts).
use Rattle.std.proofs.Common.{sym, ◌∙◌}
use Rattle.cdf_reader_step.proofs.Nexts.{useless, unfit, goes_on}
use Rattle.cdf_reader_step.proofs.next_with.Goals as goal

pub returns-then-c-eq0 : goal.returns-then-c-eq0
returns-then-c-eq0 g c = rw c.at.ensures (useless _ _ _ _ c.if-c-eq0.true)

pub returns-then-not-is_fit : goal.returns-then-not-is_fit
returns-then-not-is_fit g c =
    rw c.at-then-not-is_fit.ensures (unfit _ _ _ _ c.if-c-eq0.false (sym c.is_fit.ensures ∙ c.if-not-is_fit.true))

pub returns : goal.returns
returns g c = c.advance_with.ensures ∙ goes_on _ _ _ _ c.if-c-eq0.false (sym c.is_fit.ensures ∙ c.if-not-is_fit.false)
