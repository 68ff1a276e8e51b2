-- Each return by its law (proofs/Stages).
use Rattle.std.proofs.Common.{◌<◌, refl, sym, ◌∙◌, arith, length}
use Rattle.std.specs.Prelude.{◌≡◌, Some, None}
use Rattle.std.proofs.lemmas.Result.{err_from_is_err_and}
use Rattle.cdf_refusal.specs.declared.Refusal.TheVariants.{NoGroup}
use Rattle.cdf_refusal.proofs.Apart.{refuses}
use Rattle.cdf_unit_prefix.specs.Layout.{layout_of}
use Rattle.cdf_builder_spec.specs.Requests.{group}
use Rattle.cdf_builder_decide.proofs.Stages.{declined, unfit, no_group, group_not_joined, Grows, grows, group_grows, sum_fits}
use Rattle.cdf_builder_decide.proofs.Few.{growable}
use Rattle.cdf_builder_decide.proofs.decide_group.Goals as goal
use Rattle.cdf_builder_decide.proofs.decide_group.Goals.{In_ok-left}

-- No rule of its own is broken. A lent slice has less than 2^63 bytes.
asked : (c : In_ok-left) →
    let a = c.args in
    let left = c.in_ok-left.left in
    Grows (layout_of a.edition) a.n a.p (group a.bytes.now) left.count left.top (length a.bytes.now) 0
asked c =
    let a = c.args in
    let fit = sym c.is_fit.ensures ∙ c.if-not-is_fit.false in
    let small : length a.bytes.now < 9223372036854775808 = omega arith in
    let some : c.group_id.result ≡ Some c.in_ok-id.id = grind arith in
    group_grows _ _ _ _ _ fit _ (sym c.in_ok-left.ensures.number) c.in_ok-left.ensures.left _ (sym some ∙ c.group_id.ensures)
    (sum_fits a.edition _ _ _ fit (omega (arith, small)))

pub returns-then-not-is_fit : goal.returns-then-not-is_fit
returns-then-not-is_fit c = sym (declined _ _ _ _ 2 (λ e. omega arith) (unfit _ _ _ _ (sym c.is_fit.ensures ∙ c.if-not-is_fit.true)))

pub returns-in_err-id : goal.returns-in_err-id
returns-in_err-id c =
    let fit = sym c.is_fit.ensures ∙ c.if-not-is_fit.false in
    let none : c.group_id.result ≡ None = grind arith in
    let told : c.in_err-id.field-0.0 ≡ NoGroup = grind arith in
    let p = err_from_is_err_and c.from_residual.result c.from_residual.ensures.1 in
    rw (p.1, p.2, told) (sym (declined _ _ _ _ 14 (λ e. omega arith) (no_group _ _ _ _ fit (sym none ∙ c.group_id.ensures))))

pub returns-in_err-left : goal.returns-in_err-left
returns-in_err-left c =
    let fit = sym c.is_fit.ensures ∙ c.if-not-is_fit.false in
    let some : c.group_id.result ≡ Some c.in_ok-id.id = grind arith in
    let p = err_from_is_err_and c.from_residual-in_err-left.result c.from_residual-in_err-left.ensures.1 in
    rw (p.1, p.2) (sym (declined _ _ _ _ _ (refuses _)
    (group_not_joined _ _ _ _ fit _ (sym some ∙ c.group_id.ensures) _ c.in_err-left.ensures.number (refuses _))))

pub grow-requires : goal.grow-requires
grow-requires c = (asked (goal.at.grow-requires c).In_ok-left).sum

pub returns : goal.returns
returns c =
    let w = asked (goal.at.returns c).In_ok-left in
    c.grow.ensures 0 refl (growable _ _ _ _ _ _ _ _ w) ∙ grows _ _ _ _ _ _ _ _ w
