-- By the cases of the body.
use Rattle.std.proofs.Common.{ℕ, ◌≡◌, ◌<◌, Err, ap, refl, subst, arith}
use Rattle.cdf_unit_prefix.specs.Layout.{Layout, prefix_of}
use Rattle.cdf_unit_judge.specs.declared.BodyFault.{BodyFault}
use Rattle.cdf_unit_judge.specs.declared.BodyFault.TheVariants.{Action, Data}
use Rattle.cdf_unit_judge.specs.Judge.{found_by}
use Rattle.cdf_unit_judge.specs.Answers.{bodied, judged, byte_of, fault_of}
use Rattle.cdf_unit_judge.specs.Short.{Short}
use Rattle.cdf_unit_judge.proofs.found.Goals as goal

byte_short : (f : BodyFault) → Short (bodied (Err f)) → byte_of f < 9223372036854775808
byte_short Action few = omega arith
byte_short (Data k) few = few

told_by : (l : Layout) (id action len next : ℕ) (f : BodyFault) →
    judged (Err (fault_of 0 (prefix_of l) f)) ≡ found_by l id action len next (bodied (Err f))
unfolding found_by
told_by l id action len next Action = refl
told_by l id action len next (Data k) = refl

pub overflow_add-result : goal.overflow_add-result
overflow_add-result c =
    let few = subst Short (ap bodied c.in-Ok.is) c.requires in
    omega (arith, few, c.prefix-p.ensures.near)

pub returns-in-Err : goal.returns-in-Err
returns-in-Err c =
    let few = byte_short _ (subst Short (ap bodied c.in-Err.is) c.requires) in
    rw (c.told.ensures.near (omega (arith, few, c.prefix-p.ensures.near)), c.in-Err.is, c.prefix-p.ensures.is) (told_by _ _ _ _ _ _)

pub returns-in-Ok : goal.returns-in-Ok
unfolding found_by
returns-in-Ok c = rw (c.in-Ok.is, c.prefix-p.ensures.is)
