-- By what the root is judged to be (proofs/Starting).
use Rattle.std.proofs.Common.{refl, sym, ap, ◌∙◌}
use Rattle.std.proofs.lemmas.Result.{err_from_is_err_and}
use Rattle.cdf_unit_table.proofs.Options.{none_told, some_told}
use Rattle.cdf_unit_judge.specs.Answers.{judged}
use Rattle.cdf_reader_spec.specs.Slots.{open_units, open_ranks}
use Rattle.cdf_reader_cursor.proofs.Starting.{start_fault, start_opens, start_leaf}
use Rattle.cdf_reader_cursor.proofs.begun.Goals as goal

pub returns-in_err-root : goal.returns-in_err-root
unfolding open_units open_ranks
returns-in_err-root c =
    let p = err_from_is_err_and c.from_residual.result c.from_residual.ensures.1 in
    rw (p.1, p.2) (sym (start_fault (ap judged c.in_err-root.was)))

pub returns-in_default : goal.returns-in_default
returns-in_default c =
    rw (c.hand_out.ensures, c.no_cursor.ensures)
    (sym (start_leaf (ap judged c.in_ok-root.was) _ refl (none_told _ (sym c.first_state.ensures ∙ c.in_default.is))))

pub returns : goal.returns
returns c =
    let told = some_told _ _ (sym c.first_state.ensures ∙ c.in-Some.is) in
    rw (c.hand_out-2.ensures, c.no_cursor.ensures) (sym (start_opens (ap judged c.in_ok-root.was) _ told.0 told.1))
