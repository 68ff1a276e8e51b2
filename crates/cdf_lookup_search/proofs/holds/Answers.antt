-- The id, and then the bytes behind the prefix.
use Rattle.std.proofs.Common.{eq-eqb, ne_eqb}
use Rattle.cdf_lookup_spec.specs.Find.{reads}
use Rattle.cdf_lookup_search.proofs.Comparing.{compared}
use Rattle.cdf_lookup_search.proofs.holds.Goals as goal

pub returns-else-u-id : goal.returns-else-u-id
unfolding reads
returns-else-u-id c =
    rw (ne_eqb _ _ c.if-u-id.false)

pub returns-then-u-id : goal.returns-then-u-id
unfolding reads
returns-then-u-id c =
    rw (eq-eqb _ _ c.if-u-id.true, ← c.prefix.ensures.is, ← compared) c.eq.ensures
