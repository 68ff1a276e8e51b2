-- The loop's invariant is proofs/Writing's.
use Rattle.std.proofs.Common.{arith, rules}
use Rattle.cdf_rescue_c.proofs.Pairs.{none}
use Rattle.cdf_rescue_c.proofs.Writing.{begun, on, done, front}
use Rattle.cdf_rescue_c.proofs.write_answer.Goals as goal

pub loop-i-init : goal.loop-i-init
loop-i-init c = begun _ _ (search rules) (search rules)

pub loop-i-preserved : goal.loop-i-preserved
loop-i-preserved c = on _ _ _ _ c.loop-i.invariant none (omega (arith, c.loop-i-test.true, c.loop-i.invariant.full))

pub returns : goal.returns
returns c =
    let a = c.args in
    let all = done _ _ _ _ c.loop-i.invariant (omega (arith, c.loop-i.invariant.full, c.loop-i-test.false)) in
    rw (front a.answer.now a.told.now.size a.told.now.count (search rules)) at all
