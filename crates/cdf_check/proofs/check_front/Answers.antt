-- `check_front` meets its contract, by the laws of the unit at the front (proofs/Walked).
use Rattle.std.proofs.Common.{refl, sym, ap, ◌∙◌, arith, length-take}
use Rattle.std.proofs.lemmas.Result.{err_from_is_err_and}
use Rattle.cdf_unit_prefix.specs.Layout.{layout_of}
use Rattle.cdf_unit_data.specs.Standing.{name_row}
use Rattle.cdf_unit_judge.specs.Answers.{judged}
use Rattle.cdf_unit_judge.proofs.Placed.{placed}
use Rattle.cdf_unit_table.proofs.Heights.{opens_lower, height_most}
use Rattle.cdf_unit_table.proofs.Options.{none_told, some_told}
use Rattle.cdf_unit_table.proofs.Rows.{opens_by, leaf_by}
use Rattle.cdf_check.proofs.Walked.{front_stopped, front_found}
use Rattle.cdf_check.proofs.check_front.Goals as goal

pub slice_bounds-check_inside-end : goal.slice_bounds-check_inside-end
slice_bounds-check_inside-end c =
    let p = c.requires in
    let z = placed (layout_of c.args.edition) p.0 p.1 c.args.s.now (p.2 ∙ ap judged c.in_ok-unit.was) in
    simp length-take (omega (arith, z.high))

pub check_inside-requires : goal.check_inside-requires
unfolding name_row
check_inside-requires c =
    let p = c.requires in
    let z = placed (layout_of c.args.edition) p.0 p.1 c.args.s.now (p.2 ∙ ap judged c.in_ok-unit.was) in
    let id = c.in_ok-unit.unit.id in
    let told = some_told _ _ (sym c.first_state.ensures ∙ c.in-Some.is) in
    let low = (opens_lower id (opens_by id _ told.0 told.1)).same in
    (rw told.0 (simp length-take (omega (arith, low, z.high, z.inside, z.room, height_most id))), refl)

pub returns : goal.returns
returns c =
    let told = some_told _ _ (sym c.first_state.ensures ∙ c.in-Some.is) in
    front_found _ _ (ap judged c.in_ok-unit.was) (rw (opens_by _ _ told.0 told.1, ← told.0) c.check_inside.ensures.is)

pub returns-in_err-unit : goal.returns-in_err-unit
returns-in_err-unit c =
    let p = err_from_is_err_and c.from_residual.result c.from_residual.ensures.1 in
    rw (p.1, p.2, c.in_err-unit.was) (front_stopped _ _ refl)

pub returns-in_default : goal.returns-in_default
returns-in_default c =
    front_found _ _ (ap judged c.in_ok-unit.was) (rw (leaf_by _ _ refl (none_told _ (sym c.first_state.ensures ∙ c.in_default.is))))
