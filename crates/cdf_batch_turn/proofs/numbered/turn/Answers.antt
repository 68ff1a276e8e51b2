-- After a refusal, and by the pass that is said.
use Rattle.std.proofs.Common.{◌≡◌, sym, ap, ◌∙◌}
use Rattle.cdf_unit_prefix.specs.Layout.{layout_of}
use Rattle.cdf_unit_prefix.specs.declared.Edition.TheVariants.{First}
use Rattle.cdf_batch_turn.specs.Passes.{writes, going_of}
use Rattle.cdf_batch_turn.proofs.Turning.{turn_still, turn_anew}
use Rattle.cdf_batch_turn.proofs.numbered.turn.Goals as goal
use Rattle.cdf_batch_turn.proofs.numbered.turn.Goals.{Joined-ran, then-ran, else-ran}

said : (c : Joined-ran) → writes c.if-ran.pass ≡ c.args.ran.writing
said c =
    elim c.if-ran.branch [
      | then-ran w ↦ ap writes w.pass-is ∙ sym w.if-ran.true
      | else-ran w ↦ ap writes w.pass-is ∙ sym w.if-ran.false
    ]

pub returns-then-ran-ne0 : goal.returns-then-ran-ne0
returns-then-ran-ne0 c =
    let a = c.args in
    sym (turn_still (layout_of First) a.text.now (going_of a.ran a.buffer.now) a.rank a.r c.if-ran-ne0.true)

pub returns-in-Ok : goal.returns-in-Ok
returns-in-Ok c =
    let a = c.args in
    rw (said (goal.at.returns-in-Ok c).Joined-ran) at (c.in-Ok.ensures a.rank)
    ∙ turn_anew (layout_of First) a.text.now (going_of a.ran a.buffer.now) a.rank a.r c.if-ran-ne0.false

pub returns-in-Err : goal.returns-in-Err
returns-in-Err c =
    let a = c.args in
    let number = c.number.ensures in
    rw number (rw (said (goal.at.returns-in-Err c).Joined-ran) at (c.in-Err.ensures a.rank)
    ∙ turn_anew (layout_of First) a.text.now (going_of a.ran a.buffer.now) a.rank a.r c.if-ran-ne0.false)
