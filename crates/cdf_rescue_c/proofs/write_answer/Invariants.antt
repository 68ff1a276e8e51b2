-- The loop's invariant is proofs/Writing's.
use Rattle.cdf_rescue_c.proofs.Writing.{Writing}
use Rattle.cdf_rescue_c.proofs.write_answer.Given as goal

abbrev pub invariant-loop-i : goal.invariant-loop-i
invariant-loop-i l = Writing l.initial.answer l.run-items l.answer l.i
