-- By the tests of the definition.
use Rattle.cdf_unit_data.specs.Data.{numbers_of}
use Rattle.std.proofs.Common.{le-leb, eq-eqb, ne_eqb}
use Rattle.std.proofs.lemmas.Bool.{lt-leb}
use Rattle.cdf_unit_own.proofs.numbers.Goals as goal

pub returns-then-n-s : goal.returns-then-n-s
unfolding numbers_of
returns-then-n-s c =
    rw (
      c.if-others.true,
      le-leb _ _ c.if-n-s.true,
    )

pub returns-then-others : goal.returns-then-others
unfolding numbers_of
returns-then-others c =
    rw (
      c.if-others.true,
      lt-leb _ _ c.if-n-s.false,
    )

pub returns-then-s-n : goal.returns-then-s-n
unfolding numbers_of
returns-then-s-n c =
    rw (
      c.if-others.false,
      eq-eqb _ _ c.if-s-n.true,
    )

pub returns-else-s-n : goal.returns-else-s-n
unfolding numbers_of
returns-else-s-n c =
    rw (
      c.if-others.false,
      ne_eqb _ _ c.if-s-n.false,
    )
