-- By the id behind it, and its own.
use Rattle.std.proofs.Common.{inl, inr, arith}
use Rattle.cdf_resolve.proofs.Walking.{add_ranks, meet_none, meet_template, meet_key, meet_other}
use Rattle.cdf_resolve.proofs.meet.Goals as goal

pub returns-then-id-ne-TEMPORARY_KEY : goal.returns-then-id-ne-TEMPORARY_KEY
returns-then-id-ne-TEMPORARY_KEY c =
    let a = c.args in
    λ before p k w. rw (meet_none _ a.s.now p a.owner a.id c.if-id-ne-TEMPORARY_KEY.true) (k, w)

pub hold-requires : goal.hold-requires
hold-requires c =
    let pre = c.requires in
    (pre.0, pre.1 c.if-id-ne-TEMPORARY_KEY.false (inl c.in-5.is))

pub returns-in-5 : goal.returns-in-5
returns-in-5 c =
    let a = c.args in
    λ before p k w.
    rw (meet_template _ a.s.now p a.owner a.id c.if-id-ne-TEMPORARY_KEY.false c.in-5.is)
    (c.hold.ensures p k, rw (add_ranks _ a.s.now p a.owner) w)

pub tell-requires : goal.tell-requires
tell-requires c =
    let pre = c.requires in
    (pre.0, pre.1 c.if-id-ne-TEMPORARY_KEY.false (inr c.in-11.is))

pub returns-in-11 : goal.returns-in-11
returns-in-11 c =
    let a = c.args in
    λ before p k w.
    rw (meet_key _ a.s.now p a.owner a.id c.if-id-ne-TEMPORARY_KEY.false (λ z. omega (arith, c.in-11.is, z)) c.in-11.is) (c.tell.ensures before p k w)

pub returns-in_default : goal.returns-in_default
returns-in_default c =
    let a = c.args in
    λ before p k w.
    rw (meet_other _ a.s.now p a.owner a.id c.if-id-ne-TEMPORARY_KEY.false (λ z. omega (arith, z)) (λ z. omega (arith, z))) (k, w)
