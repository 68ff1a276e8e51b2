-- Each return by its law (proofs/Faults).
use Rattle.std.proofs.Common.{◌≡◌, sym, ap, ◌∙◌, true, List, ℕ, ◌-◌, arith, get_or}
use borrow.Author.Tests.{true-ltb, false-ltb}
use Rattle.std.specs.Prelude.{Some, Result, Ok, Err}
use Rattle.std.specs.Option.{option_and}
use Rattle.std.specs.Result.{result_ok}
use Rattle.std.proofs.lemmas.List.{get_or_default}
use Rattle.cdf_refusal.specs.declared.Fault.{Fault}
use Rattle.cdf_unit_prefix.specs.Layout.{Layout, layout_of, id_at}
use Rattle.cdf_unit_list.specs.Units.{listing}
use Rattle.cdf_unit_list.specs.Check.{check_of}
use Rattle.cdf_check.specs.Answers.{checked, checked_of, as_answer}
use Rattle.cdf_reader_spec.specs.Calls.{is_group}
use Rattle.cdf_builder_faults.specs.Parts.{group_of}
use Rattle.cdf_builder_faults.proofs.Faults.{group_short, group_other, group_accepted, group_refused}
use Rattle.cdf_builder_faults.proofs.group_id.Goals as goal
use Rattle.cdf_builder_faults.proofs.group_id.Goals.{In_ok-id}

id_is : (c : In_ok-id) → c.in_ok-id.field-0.now ≡ id_at (layout_of c.args.edition) c.args.group.now
unfolding id_at
id_is c =
    let found = c.in_ok-id.ensures.lookup in
    found.1 ∙ get_or_default _ _ _ 0 (true-ltb _ _ found.0) ∙ ap (λ p. get_or c.args.group.now (p - 1) 0) c.prefix.ensures.is

pub returns-in_err-id : goal.returns-in_err-id
returns-in_err-id c =
    c.from_residual.ensures ∙ sym (group_short _ _ (omega (arith, c.prefix.ensures.is, false-ltb _ _ c.in_err-id.ensures.lookup.0)))

pub returns-then-not-is_group : goal.returns-then-not-is_group
returns-then-not-is_group c = sym (group_other _ _ (rw (id_is (goal.at.returns-then-not-is_group c).In_ok-id) at c.if-not-is_group.true))

-- By what the check answers.
by_check : (l : Layout) (g : List ℕ) (r : Result ℕ Fault) → as_answer (checked r) ≡ check_of l g → checked r ≡ checked_of (listing l g) →
    is_group (id_at l g) ≡ true → option_and (result_ok r) (Some (id_at l g)) ≡ group_of l g
by_check l g (Ok n) answer is kind = sym (group_accepted l g n answer kind)
by_check l g (Err f) answer is kind = sym (group_refused l g is answer)

pub returns : goal.returns
returns c =
    let id = id_is (goal.at.returns c).In_ok-id in
    rw (c.and.ensures, c.ok.ensures.value, id)
    (by_check _ _ _ c.check_as.ensures.answer c.check_as.ensures.is (rw id at c.if-not-is_group.false))
