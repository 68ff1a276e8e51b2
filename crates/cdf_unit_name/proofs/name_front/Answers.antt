-- The loop's invariant: every byte passed may stand in a name.
use Rattle.std.proofs.Common.{◌-◌, ◌≡◌, ◌∙◌, length, arith}
use Rattle.std.proofs.lemmas.Bool.{not-true, not-false}
use Rattle.cdf_unit_data.proofs.Names.{front_none, front_bad, begun, stopped, on, ended}
use Rattle.cdf_unit_name.proofs.name_front.Goals as goal

pub returns-then-s-eq0 : goal.returns-then-s-eq0
returns-then-s-eq0 c = front_none _ _ c.if-s-eq0.true

pub returns-then-not-is_first : goal.returns-then-not-is_first
returns-then-not-is_first c =
    front_bad _ _ c.if-s-eq0.false _ c.is_first.ensures (not-true c.is_first.result c.if-not-is_first.true-raw)

pub loop-i-init : goal.loop-i-init
loop-i-init c =
    begun _ _ c.if-s-eq0.false _ c.is_first.ensures (not-false c.is_first.result c.if-not-is_first.false-raw)

pub bounds-s-i : goal.bounds-s-i
bounds-s-i c = omega arith

pub returns-then-not-is_later : goal.returns-then-not-is_later
returns-then-not-is_later c =
    stopped _ _ _ c.loop-i.invariant _ c.loop-i-test.true c.is_later.ensures
    (not-true c.is_later.result c.if-not-is_later.true-raw)

pub loop-i-smaller : goal.loop-i-smaller
loop-i-smaller c = omega arith

pub loop-i-preserved : goal.loop-i-preserved
loop-i-preserved c =
    on _ _ _ c.loop-i.invariant _ c.loop-i-test.true c.is_later.ensures
    (not-false c.is_later.result c.if-not-is_later.false-raw)

pub returns : goal.returns
returns c = let end : length c.args.s.now ≡ c.loop-i.i = omega arith in end ∙ ended _ _ _ c.loop-i.invariant c.loop-i-test.false
