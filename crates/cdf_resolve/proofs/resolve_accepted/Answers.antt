-- The root, then what the first pass tells, then what the second writes.
use Rattle.std.proofs.Common.{refl, sym, ◌∙◌, arith}
use Rattle.std.specs.Prelude.{Ok, Err}
use Rattle.cdf_refusal.proofs.Apart.{refuses}
use Rattle.cdf_resolve_tally.specs.Told.{answer_of}
use Rattle.cdf_resolve.proofs.Answering.{by_refusal, refused_root, by_first, by_second}
use Rattle.cdf_resolve.proofs.resolve_accepted.Goals as goal

pub returns-then-not-is_group : goal.returns-then-not-is_group
returns-then-not-is_group c =
    let s = c.args.s.now in
    let list = c.args.list.now in
    let other = sym (c.is_group.ensures.listed _ s c.first.ensures) ∙ c.if-not-is_group.true in
    let all = by_refusal _ s list 7 0 (refused_root _ s list c.requires other) (λ z. omega arith) _ (rw c.into.ensures) in
    record { is = all.0; ranks = all.1 }

pub pass-t-requires : goal.pass-t-requires
pass-t-requires c =
    let s = c.args.s.now in
    (c.requires, sym (c.is_group.ensures.listed _ s c.first.ensures) ∙ c.if-not-is_group.false)

pub returns-in_err-count-clause-ranks : goal.returns-in_err-count-clause-ranks
returns-in_err-count-clause-ranks c =
    let s = c.args.s.now in
    let list = c.args.list.now in
    let fault = c.in_err-count.field-0.0 in
    (by_first _ s list c.pass-t.result (answer_of (Err fault)) c.in_err-count.ensures c.pass-t.ensures.answer (refuses fault.refusal)).1

pub pass-requires : goal.pass-requires
pass-requires c =
    let s = c.args.s.now in
    (c.requires, sym (c.is_group.ensures.listed _ s c.first.ensures) ∙ c.if-not-is_group.false)

pub returns : goal.returns
returns c =
    let s = c.args.s.now in
    let list = c.args.list.now in
    let all = by_second _ s list c.pass-t.result (answer_of (Ok c.in_ok-count.count)) c.in_ok-count.ensures c.pass-t.ensures.answer
    refl c.pass.result _ c.pass.ensures in
    record { is = all.0; ranks = all.1 }
