-- `check_unit` and `check_inside`, which call each other, meet their contracts, by the laws of the unit and of the walk
-- (proofs/Walked).
use Rattle.std.proofs.Common.{ℕ, ◌≡◌, ap, refl, sym, ◌∙◌, false, true, arith, drop, length-take, length-drop}
use Rattle.std.specs.Prelude.{Err}
use Rattle.std.proofs.lemmas.Result.{err_from_is_err_and}
use Rattle.cdf_unit_prefix.specs.Layout.{layout_of}
use Rattle.cdf_unit_data.proofs.Standing.{row_is}
use Rattle.cdf_unit_prefix.specs.Rules.{headed}
use Rattle.cdf_unit_judge.specs.Judge.{body_of}
use Rattle.cdf_unit_judge.specs.Answers.{bodied}
use Rattle.cdf_unit_judge.specs.declared.BodyFault.TheVariants.{Action as BadAction, Data as BadData}
use Rattle.cdf_unit_table.proofs.Heights.{opens_lower}
use Rattle.cdf_unit_table.proofs.Parts.{rest}
use Rattle.cdf_unit_table.proofs.Options.{none_told, some_told}
use Rattle.cdf_unit_table.proofs.Rows.{opens_by}
use Rattle.cdf_unit_judge.proofs.Placed.{body_fits}
use Rattle.cdf_check.specs.Answers.{checked}
use Rattle.cdf_check.proofs.Walked.{begun, finished, stopped, not_here, Lies, lies, stopped_inside, on, no_body, byte_fits, leaf, holds}
use Rattle.cdf_check.proofs.+check_inside_check_unit.Goals as goal
use Rattle.cdf_check.proofs.+check_inside_check_unit.Goals.{check_inside-In-Some, check_unit-After-judge_body}

pub check_inside-loop-at-init : goal.check_inside-loop-at-init
check_inside-loop-at-init t c = begun _ _ _ _ _ _ _ c.requires.0.0 (omega arith) (omega arith)

pub check_inside-returns-in-Err : goal.check_inside-returns-in-Err
check_inside-returns-in-Err t c =
    let a = stopped c.loop-at.invariant c.loop-at-test.true _ (simp rest at c.head.ensures) (ap headed c.in-Err.is) in
    rw c.at.ensures (record { is = a.0; few = a.1 })

pub check_inside-returns-in_default : goal.check_inside-returns-in_default
check_inside-returns-in_default t c =
    let a =
    not_here c.loop-at.invariant c.loop-at-test.true _ (simp rest at c.head.ensures) (ap headed c.in-Ok.is) _
    refl (none_told _ (sym c.state_after.ensures ∙ c.in_default.is)) in
    rw c.at-in_default.ensures (record { is = a.0; few = a.1 })

-- Where the unit lies that is admitted.
placed : (t : ℕ) (c : check_inside-In-Some t) →
    Lies (layout_of c.args.edition) c.args.levels c.args.s.now c.loop-at.at c.in-Ok.header.id c.in-Ok.header.length c.in-Some.next
placed t c =
    let told = some_told _ _ (sym c.state_after.ensures ∙ c.in-Some.is) in
    lies c.loop-at.invariant c.loop-at-test.true _ (simp rest at c.head.ensures) (ap headed c.in-Ok.is) _
    told.0 told.1

pub check_inside-overflow_add-e : goal.check_inside-overflow_add-e
check_inside-overflow_add-e t c = omega (arith, placed t (goal.at.check_inside-overflow_add-e t c).In-Some)

pub check_inside-slice_bounds-unit-end : goal.check_inside-slice_bounds-unit-end
check_inside-slice_bounds-unit-end t c = omega (arith, placed t (goal.at.check_inside-slice_bounds-unit-end t c).In-Some)

pub check_inside-check_unit-requires : goal.check_inside-check_unit-requires
check_inside-check_unit-requires t c =
    let z = placed t (goal.at.check_inside-check_unit-requires t c).In-Some in
    (omega (arith, z), (simp (length-take, length-drop) (omega (arith, z)), c.requires.1))

pub check_inside-returns-in_err-n-in-Ok : goal.check_inside-returns-in_err-n-in-Ok
check_inside-returns-in_err-n-in-Ok t c =
    let p = err_from_is_err_and c.from_residual.result c.from_residual.ensures.1 in
    let told = some_told _ _ (sym c.state_after.ensures ∙ c.in-Some.is) in
    let a =
    stopped_inside c.loop-at.invariant c.loop-at-test.true _ (simp rest at c.head.ensures) (ap headed c.in-Ok.is) _
    told.0 told.1 c.check_unit.ensures.is (ap checked c.in_err-n-in-Ok.was) in
    rw (p.1, p.2) (record { is = a.0; few = a.1 })

pub check_inside-loop-at-smaller : goal.check_inside-loop-at-smaller
check_inside-loop-at-smaller t c =
    omega (arith, placed t (goal.at.check_inside-loop-at-smaller t c).In-Some)

pub check_inside-loop-at-preserved : goal.check_inside-loop-at-preserved
check_inside-loop-at-preserved t c =
    let z = placed t (goal.at.check_inside-loop-at-preserved t c).In-Some in
    let told = some_told _ _ (sym c.state_after.ensures ∙ c.in-Some.is) in
    let few = simp (length-take, length-drop) at (c.check_unit.ensures.few _ (ap checked c.in_ok-n-in-Ok.was)) in
    on c.loop-at.invariant c.loop-at-test.true _ (simp rest at c.head.ensures) (ap headed c.in-Ok.is) _
    told.0 told.1 c.check_unit.ensures.is (ap checked c.in_ok-n-in-Ok.was)
    (omega (arith, few, z))

pub check_inside-returns-then-is_complete : goal.check_inside-returns-then-is_complete
check_inside-returns-then-is_complete t c =
    let a = finished c.loop-at.invariant c.loop-at-test.false true (sym c.is_complete.ensures ∙ c.if-is_complete.true) in
    record { is = a.0; few = a.1 }

pub check_inside-returns-else-is_complete : goal.check_inside-returns-else-is_complete
check_inside-returns-else-is_complete t c =
    let a = finished c.loop-at.invariant c.loop-at-test.false false (sym c.is_complete.ensures ∙ c.if-is_complete.false) in
    rw c.at-else-is_complete.ensures (record { is = a.0; few = a.1 })

-- What the action and own data are found to be, over the whole of what stands behind the prefix.
body_is : (t : ℕ) (c : check_unit-After-judge_body t) →
    bodied c.judge_body.result ≡ body_of c.args.header.id c.args.header.action (drop c.prefix-p.result c.args.s.now)
body_is t c = rw (row_is _ c.requires.1) at (simp rest at c.judge_body.ensures)

pub check_unit-returns-in_default : goal.check_unit-returns-in_default
check_unit-returns-in_default t c =
    let is = body_is t (goal.at.check_unit-returns-in_default t c).After-judge_body in
    let a =
    leaf _ _ _ _ _ _ _ _ c.prefix-p.ensures.is _ is (ap bodied c.in-Ok.is) _
    refl (omega (arith, c.requires.0)) (none_told _ (sym c.first_state.ensures ∙ c.in_default.is)) in
    record { is = a.0; few = a.1 }

pub check_unit-overflow_add-p : goal.check_unit-overflow_add-p
check_unit-overflow_add-p t c =
    let is = body_is t (goal.at.check_unit-overflow_add-p t c).After-judge_body in
    let few = body_fits _ _ _ _ _ (sym is ∙ (ap bodied c.in-Ok.is)) in
    omega (arith, c.prefix-p.ensures.is, simp length-drop at few)

pub check_unit-check_inside-requires : goal.check_unit-check_inside-requires
check_unit-check_inside-requires t c =
    let is = body_is t (goal.at.check_unit-check_inside-requires t c).After-judge_body in
    let few = body_fits _ _ _ _ _ (sym is ∙ (ap bodied c.in-Ok.is)) in
    let id = c.args.header.id in
    let told = some_told _ _ (sym c.first_state.ensures ∙ c.in-Some.is) in
    let low = (opens_lower id (opens_by id _ told.0 told.1)).same in
    (omega arith, (rw told.0 (omega (arith, low, c.prefix-p.ensures.is, simp length-drop at few)), c.requires.1))

pub check_unit-returns-in-Err-Action : goal.check_unit-returns-in-Err-Action
check_unit-returns-in-Err-Action t c =
    let is = body_is t (goal.at.check_unit-returns-in-Err-Action t c).After-judge_body in
    let told = ap bodied (c.in-Err-Action.is ∙ ap Err c.in-Err-Action.field-0-is) in
    let a = no_body _ _ _ _ _ _ _ _ c.prefix-p.ensures.is _ is BadAction told in
    rw c.at.ensures (record { is = a.0; few = a.1 })

pub check_unit-overflow_add-place-in-Err-Data : goal.check_unit-overflow_add-place-in-Err-Data
check_unit-overflow_add-place-in-Err-Data t c =
    let is = body_is t (goal.at.check_unit-overflow_add-place-in-Err-Data t c).After-judge_body in
    let told = ap bodied (c.in-Err-Data.is ∙ ap Err c.in-Err-Data.field-0-is) in
    let few = byte_fits _ _ _ (BadData c.in-Err-Data.k) (sym is ∙ told) in
    rw c.in-Err-Data.field-0-is (omega (arith, c.prefix-p.ensures.is, simp length-drop at few))

pub check_unit-returns-in-Err-Data : goal.check_unit-returns-in-Err-Data
check_unit-returns-in-Err-Data t c =
    let is = body_is t (goal.at.check_unit-returns-in-Err-Data t c).After-judge_body in
    let told = ap bodied (c.in-Err-Data.is ∙ ap Err c.in-Err-Data.field-0-is) in
    let a = no_body _ _ _ _ _ _ _ _ c.prefix-p.ensures.is _ is (BadData c.in-Err-Data.k) told in
    rw (c.at-in-Err-Data.ensures, c.in-Err-Data.field-0-is) (record { is = a.0; few = a.1 })

pub check_unit-returns-in_err-m : goal.check_unit-returns-in_err-m
check_unit-returns-in_err-m t c =
    let is = body_is t (goal.at.check_unit-returns-in_err-m t c).After-judge_body in
    let told = some_told _ _ (sym c.first_state.ensures ∙ c.in-Some.is) in
    let p = err_from_is_err_and c.from_residual.result c.from_residual.ensures.1 in
    let a =
    holds _ _ _ _ _ _ _ _ c.prefix-p.ensures.is _ is (ap bodied c.in-Ok.is) _ told.0 told.1 (c.in_err-m.ensures.is, c.in_err-m.ensures.few) in
    rw (p.1, p.2) (record { is = a.0; few = a.1 })

pub check_unit-returns : goal.check_unit-returns
check_unit-returns t c =
    let is = body_is t (goal.at.check_unit-returns t c).After-judge_body in
    let told = some_told _ _ (sym c.first_state.ensures ∙ c.in-Some.is) in
    let a =
    holds _ _ _ _ _ _ _ _ c.prefix-p.ensures.is _ is (ap bodied c.in-Ok.is) _ told.0 told.1 (c.in_ok-m.ensures.is, c.in_ok-m.ensures.few) in
    record { is = a.0; few = a.1 }
