-- The numbers, and then the names.
use Rattle.std.proofs.Common.{ap, ◌∙◌}
use Rattle.cdf_unit_prefix.specs.Layout.{layout_of, prefix_of}
use Rattle.cdf_resolve_spec.specs.Pass.{alike_at}
use Rattle.cdf_lookup_search.proofs.Comparing.{compared}
use Rattle.cdf_resolve.proofs.alike.Goals as goal

pub returns-then-eq : goal.returns-then-eq
unfolding alike_at
returns-then-eq c =
    let width = c.prefix-width.ensures.is ∙ ap (λ e. prefix_of (layout_of e)) c.edition_of.ensures in
    rw (← width, ← compared, ← compared, ← c.eq.ensures, c.if-eq.true) c.eq-then-eq.ensures

pub returns-else-eq : goal.returns-else-eq
unfolding alike_at
returns-else-eq c =
    let width = c.prefix-width.ensures.is ∙ ap (λ e. prefix_of (layout_of e)) c.edition_of.ensures in
    rw (← width, ← compared, ← c.eq.ensures, c.if-eq.false)
