-- Each return by its law (proofs/Stages).
use Rattle.std.proofs.Common.{◌+◌, ◌<◌, refl, sym, ◌∙◌, arith, length}
use Rattle.std.proofs.lemmas.Result.{err_from_is_err_and}
use Rattle.cdf_refusal.proofs.Apart.{refuses}
use Rattle.cdf_unit_table.specs.States.{nothing}
use Rattle.cdf_unit_prefix.specs.Layout.{layout_of}
use Rattle.cdf_builder_spec.specs.Requests.{unit}
use Rattle.cdf_builder_spec.specs.Slots.{placed}
use Rattle.cdf_builder_decide.proofs.Stages.{declined, unfit, unknown, not_joined, wrong, Grows, grows, unit_grows, sum_fits}
use Rattle.cdf_builder_decide.proofs.Few.{growable}
use Rattle.cdf_builder_decide.proofs.decide_unit.Goals as goal
use Rattle.cdf_builder_decide.proofs.decide_unit.Goals.{After-first_state}

-- No rule of its own is broken.
asked : (c : After-first_state) →
    let a = c.args in
    let left = c.in_ok-left.left in
    Grows (layout_of a.edition) a.n a.p (unit (record { id = a.id; action = a.action; text = a.«data».now })) left.count left.top
    (c.prefix.result + length a.«data».now) (nothing a.id)
asked c =
    let prefix = c.prefix.ensures in
    let fit = sym c.is_fit.ensures ∙ c.if-not-is_fit.false in
    let is = sym c.is_known.ensures ∙ c.if-not-is_known.false in
    let a = c.args in
    let small : length a.«data».now < 9223372036854775808 = omega arith in
    let size = c.prefix.result + length a.«data».now in
    let sum = sum_fits a.edition a.n (placed a.p) size fit (omega (arith, prefix.near, small)) in
    unit_grows _ _ _ _ _ fit _ (sym c.in_ok-left.ensures.number) c.in_ok-left.ensures.left _ _ is
    (sym c.in_ok-own_fault.ensures) _ sum (rw prefix.is) _ refl

pub returns-then-not-is_fit : goal.returns-then-not-is_fit
returns-then-not-is_fit c = sym (declined _ _ _ _ 2 (λ e. omega arith) (unfit _ _ _ _ (sym c.is_fit.ensures ∙ c.if-not-is_fit.true)))

pub returns-then-not-is_known : goal.returns-then-not-is_known
returns-then-not-is_known c =
    let fit = sym c.is_fit.ensures ∙ c.if-not-is_fit.false in
    sym (declined _ _ _ _ 6 (λ e. omega arith) (unknown _ _ _ _ fit (sym c.is_known.ensures ∙ c.if-not-is_known.true)))

pub returns-in_err-left : goal.returns-in_err-left
returns-in_err-left c =
    let fit = sym c.is_fit.ensures ∙ c.if-not-is_fit.false in
    let is = sym c.is_known.ensures ∙ c.if-not-is_known.false in
    let p = err_from_is_err_and c.from_residual.result c.from_residual.ensures.1 in
    rw (p.1, p.2) (sym (declined _ _ _ _ _ (refuses _) (not_joined _ _ _ _ fit is _ c.in_err-left.ensures.number (refuses _))))

pub returns-in_err-own_fault : goal.returns-in_err-own_fault
returns-in_err-own_fault c =
    let fit = sym c.is_fit.ensures ∙ c.if-not-is_fit.false in
    let is = sym c.is_known.ensures ∙ c.if-not-is_known.false in
    let joined = sym c.in_ok-left.ensures.number in
    let p = err_from_is_err_and c.from_residual-in_err-own_fault.result c.from_residual-in_err-own_fault.ensures.1 in
    rw (p.1, p.2) (sym (declined _ _ _ _ _ (refuses _) (wrong _ _ _ _ fit is joined _ c.in_err-own_fault.ensures (refuses _))))

pub grow-requires : goal.grow-requires
grow-requires c = (asked (goal.at.grow-requires c).After-first_state).sum

pub returns : goal.returns
returns c =
    let w = asked (goal.at.returns c).After-first_state in
    c.grow.ensures _ c.first_state.ensures (growable _ _ _ _ _ _ _ _ w) ∙ grows _ _ _ _ _ _ _ _ w
