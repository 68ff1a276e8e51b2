-- By `Going` (proofs/Closings): the loop stops at a unit that ends elsewhere or is incomplete, or where none is left.
use Rattle.std.proofs.Common.{sym, ◌∙◌, arith}
use Rattle.cdf_reader_close.proofs.Closings.{stopped, on}
use Rattle.cdf_reader_close.proofs.close.Goals as goal

pub loop-left-preserved : goal.loop-left-preserved
loop-left-preserved c =
    on _ _ c.args.units _ _ c.loop-left.invariant c.loop-left-test.true c.if-left-position.true
    (sym c.is_complete.ensures ∙ c.if-is_complete.true) _ (c.unwrap_or.ensures ∙ rw (c.around.ensures, c.no_open.ensures))

pub returns-else-is_complete : goal.returns-else-is_complete
returns-else-is_complete c =
    stopped _ _ c.args.units _ _ c.loop-left.invariant (λ some e. sym c.is_complete.ensures ∙ c.if-is_complete.false)

pub returns-else-left-position : goal.returns-else-left-position
returns-else-left-position c = stopped _ _ c.args.units _ _ c.loop-left.invariant (λ some e. absurd (c.if-left-position.false e))

pub returns-after-loop-left : goal.returns-after-loop-left
returns-after-loop-left c = stopped _ _ c.args.units _ _ c.loop-left.invariant (λ some e. absurd (some (omega (arith, c.loop-left-test.false))))
