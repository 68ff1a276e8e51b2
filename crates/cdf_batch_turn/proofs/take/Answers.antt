-- By stages (proofs/Turning): an unknown id, one that does not join, what is told of it, too many units, and a request that is taken.
use Rattle.std.proofs.Common.{◌≡◌, refl, sym, ap, ◌∙◌, true, false, cond, arith, rules, ltb-false, ltb, length, length-take, length-drop}
use Rattle.std.specs.Prelude.{Err}
use Rattle.cdf_refusal.specs.Numbers.{number_of}
use Rattle.cdf_refusal.specs.declared.Refusal.TheVariants.{UnknownId}
use Rattle.cdf_refusal.proofs.Apart.{refuses}
use Rattle.cdf_unit_table.proofs.Bools.{past}
use Rattle.cdf_unit_prefix.specs.Layout.{layout_of}
use Rattle.cdf_unit_prefix.specs.declared.Edition.TheVariants.{First}
use Rattle.cdf_builder_spec.specs.Slots.{placed}
use Rattle.cdf_builder_join.specs.Joins.{refusal_of}
use Rattle.cdf_batch_turn.specs.Passes.{writes, pass_number, crowded}
use Rattle.cdf_batch_turn.proofs.Steady.{number_unknown, number_joins, number_faults, number_none, fault_bad, fault_good}
use Rattle.cdf_batch_turn.proofs.Turning.{refused, crowding, built}
use Rattle.cdf_batch_turn.proofs.take.Goals as goal
use Rattle.cdf_batch_turn.proofs.take.Goals.{In_ok-fault}

pub returns-then-not-is_known : goal.returns-then-not-is_known
returns-then-not-is_known c =
    let a = c.args in
    let out : c.is_known.result ≡ false = search rules in
    λ rank. refused a.text.now a.buffer.now (writes a.pass) a.place rank a.r _ c.from-p.ensures UnknownId
    (number_unknown (layout_of First) (writes a.pass) (length a.buffer.now) a.text.now (placed c.from-p.result) a.r (sym c.is_known.ensures ∙ out))

pub returns-in_err-left : goal.returns-in_err-left
returns-in_err-left c =
    let a = c.args in
    let e = refusal_of c.in_err-left.field-0.0 in
    let told : c.from_residual.result ≡ Err e = search rules in
    let known : c.is_known.result ≡ true = search rules in
    rw told (λ rank. refused a.text.now a.buffer.now (writes a.pass) a.place rank a.r _ c.from-p.ensures e
    (number_joins (layout_of First) (writes a.pass) (length a.buffer.now) a.text.now (placed c.from-p.result) a.r (sym c.is_known.ensures ∙ known)
    (number_of e) c.in_err-left.ensures.number (refuses e)))

pub returns-in_err-own : goal.returns-in_err-own
returns-in_err-own c =
    let a = c.args in
    let e = c.in_err-own.field-0.0 in
    let told : c.from_residual-in_err-own.result ≡ Err e = search rules in
    let known : c.is_known.result ≡ true = search rules in
    let p = placed c.from-p.result in
    let bad = c.in_err-own.ensures.err in
    rw told (λ rank. refused a.text.now a.buffer.now (writes a.pass) a.place rank a.r _ c.from-p.ensures e
    (number_faults (layout_of First) (writes a.pass) (length a.buffer.now) a.text.now p a.r (sym c.is_known.ensures ∙ known)
    c.in_ok-left.ensures.number (number_of e)
    (fault_bad (layout_of First) (writes a.pass) (length a.buffer.now) a.text.now p a.r bad.0 (number_of e) bad.1) (refuses e)))

pub returns-in_err-fault : goal.returns-in_err-fault
returns-in_err-fault c =
    let a = c.args in
    let e = c.in_err-fault.field-0.0 in
    let told : c.from_residual-in_err-fault.result ≡ Err e = search rules in
    let known : c.is_known.result ≡ true = search rules in
    let p = placed c.from-p.result in
    let good = c.in_ok-own.ensures.ok in
    rw told (λ rank. refused a.text.now a.buffer.now (writes a.pass) a.place rank a.r _ c.from-p.ensures e
    (number_faults (layout_of First) (writes a.pass) (length a.buffer.now) a.text.now p a.r (sym c.is_known.ensures ∙ known)
    c.in_ok-left.ensures.number (number_of e)
    (fault_good (layout_of First) (writes a.pass) (length a.buffer.now) a.text.now p a.r good.0 _ good.1 (number_of e) c.in_err-fault.ensures) (refuses e)))

-- Behind what is asked nothing is told of the bounds or the own data.
behind : (c : In_ok-fault) →
    let a = c.args in
    pass_number (layout_of First) (writes a.pass) (length a.buffer.now) a.text.now (placed c.from-p.result) a.r
    ≡ cond (crowded (layout_of First) a.text.now (placed c.from-p.result) a.r) 2 0
behind c =
    let a = c.args in
    let known : c.is_known.result ≡ true = search rules in
    let p = placed c.from-p.result in
    let good = c.in_ok-own.ensures.ok in
    number_none (layout_of First) (writes a.pass) (length a.buffer.now) a.text.now p a.r (sym c.is_known.ensures ∙ known) c.in_ok-left.ensures.number
    (fault_good (layout_of First) (writes a.pass) (length a.buffer.now) a.text.now p a.r good.0 _ good.1 0 c.in_ok-fault.ensures)

pub returns-then-is_crowded : goal.returns-then-is_crowded
returns-then-is_crowded c =
    let a = c.args in
    λ rank. crowding a.text.now a.buffer.now (writes a.pass) a.place rank a.r _ c.from-p.ensures
    c.in_ok-left.left.count c.in_ok-left.left.top c.in_ok-left.ensures.left _ refl
    (behind (goal.at.returns-then-is_crowded c).In_ok-fault)
    (sym (c.is_crowded.ensures _ c.first_state-first.ensures) ∙ c.if-is_crowded.true)

pub overflow_add-p : goal.overflow_add-p
overflow_add-p c =
    let w = past (ltb (layout_of First).limit c.from-p.result.written) 13 _ (λ x. omega arith) (sym c.in_ok-fault.ensures) in
    let own = simp (length-take, length-drop) at (ap length c.in_ok-own.ensures.ok.1) in
    omega (arith, ltb-false (layout_of First).limit c.from-p.result.written w.0, c.prefix.ensures.near, own)

pub returns : goal.returns
returns c =
    let a = c.args in
    let known : c.is_known.result ≡ true = search rules in
    let joins = c.in_ok-left.ensures.number in
    let own = c.in_ok-own.ensures.ok.1 in
    let first = c.first_state-first.ensures in
    λ rank. built a.text.now a.buffer.now (writes a.pass) a.place rank a.r _ c.from-p.ensures
    c.in_ok-left.left.count c.in_ok-left.left.top c.in_ok-left.ensures.left _ refl
    (sym joins) (sym (c.is_crowded.ensures _ first) ∙ c.if-is_crowded.false) _ (rw (c.prefix.ensures.is, own)) _
    (rw first at c.enter-after.ensures)
    (behind (goal.at.returns c).In_ok-fault)
    _ c.from.ensures _ (rw own at c.write.ensures)
