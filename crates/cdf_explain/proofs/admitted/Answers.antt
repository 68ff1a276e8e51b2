-- The ids below the one in hand are in their entries.
use Rattle.std.proofs.Common.{sym, ◌∙◌}
use Rattle.cdf_explain.specs.Parts.{mays_at}
use Rattle.cdf_explain.proofs.Filling.{begun, taken, passed, none_stands}
use Rattle.cdf_explain.proofs.admitted.Goals as goal
use Rattle.cdf_explain.proofs.admitted.Goals.{then-may_stand, else-may_stand}

pub loop-id-init : goal.loop-id-init
loop-id-init c =
    let a = c.args in
    begun (mays_at a.count a.state) (none_stands a.count a.state)

pub loop-id-preserved : goal.loop-id-preserved
loop-id-preserved c =
    let f = mays_at c.args.count c.args.state in
    let may = c.may_stand.ensures in
    let less = c.loop-id-test.true in
    let x = c.loop-id in
    elim c.if-may_stand.branch [
      | then-may_stand w ↦ rw w.choices-is (taken f x.choices.ids x.choices.count x.id x.invariant less (sym may ∙ w.if-may_stand.true))
      | else-may_stand w ↦ rw w.choices-is (passed f x.choices.ids x.choices.count x.id x.invariant less (sym may ∙ w.if-may_stand.false))
    ]
