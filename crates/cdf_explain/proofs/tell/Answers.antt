-- Level by level.
use Rattle.cdf_refusal.specs.Numbers.{number_of}
use Rattle.cdf_explain.proofs.Levels.{told_at_lem}
use Rattle.cdf_explain.proofs.tell.Goals as goal

pub returns : goal.returns
returns c =
    let a = c.args in
    rw (
      c.number.ensures,
      c.from-root.ensures,
      c.from-second.ensures,
      c.from-third.ensures,
      c.from-fourth.ensures,
      c.at_level.ensures,
      c.at_level-2.ensures,
      c.at_level-3.ensures,
      c.at_level-4.ensures,
      c.admitted.ensures,
    )
    (told_at_lem a.units.count a.units.top a.units.o1 a.units.o2 a.units.o3 c.requires (number_of a.fault.refusal) a.fault.offset)
