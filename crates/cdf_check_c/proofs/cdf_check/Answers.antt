-- The case of the check's answer in document 01's numbers.
use Rattle.std.proofs.Common.{ap, ◌∙◌, [], ◌∷◌}
use Rattle.cdf_unit_list.specs.Check.{Verdict}
use Rattle.cdf_check.specs.Answers.{as_answer}
use Rattle.cdf_check_c.proofs.cdf_check.Goals as goal

pub returns-in-Ok : goal.returns-in-Ok
unfolding as_answer
returns-in-Ok c =
    let told = rw c.in-Ok.is at c.check.ensures.answer in
    (ap (λ (a : Verdict). a.number) told, ap (λ (a : Verdict). a.value ∷ []) told)

pub returns-in-Err : goal.returns-in-Err
unfolding as_answer
returns-in-Err c =
    let told = rw c.in-Err.is at c.check.ensures.answer in
    (c.number.ensures ∙ ap (λ (a : Verdict). a.number) told, ap (λ (a : Verdict). a.value ∷ []) told)
