-- By the test of the definition.
use Rattle.cdf_unit_data.specs.Data.{value_from}
use Rattle.std.proofs.Common.{le-leb}
use Rattle.std.proofs.lemmas.Bool.{lt-leb}
use Rattle.cdf_unit_own.proofs.value.Goals as goal

pub returns-then-s-k : goal.returns-then-s-k
unfolding value_from
returns-then-s-k c =
    rw (le-leb _ _ c.if-s-k.true)

pub returns-else-s-k : goal.returns-else-s-k
unfolding value_from
returns-else-s-k c =
    rw (lt-leb _ _ c.if-s-k.false)
