-- 2, 10, and else the length.
use Rattle.std.proofs.Common.{◌≡◌, ap, ◌∙◌, length}
use Rattle.cdf_unit_prefix.specs.Layout.{layout_of}
use Rattle.cdf_unit_prefix.specs.declared.Edition.TheVariants.{First}
use Rattle.cdf_builder_spec.specs.Place.{fits}
use Rattle.cdf_builder_spec.specs.Calls.{finish_of}
use Rattle.cdf_builder_spec.specs.Slots.{placed}
use Rattle.cdf_builder_spec.specs.declared.Parts.{Parts}
use Rattle.cdf_builder.specs.View.{view}
use Rattle.cdf_builder.proofs.Builder.finish.Goals as goal
use Rattle.cdf_builder.proofs.Builder.finish.Goals.{After-is_fit}

-- The parts are those of the struct.
fit : (c : After-is_fit) → c.is_fit.result ≡ fits (layout_of First) (length c.args.buffer.now) (view c.args.self)
fit c = c.is_fit.ensures ∙ ap (λ (p : Parts). fits (layout_of First) (length c.args.buffer.now) (placed p)) c.from.ensures

pub returns-then-not-is_fit : goal.returns-then-not-is_fit
unfolding finish_of
returns-then-not-is_fit c = rw (← fit (goal.at.returns-then-not-is_fit c).After-is_fit, c.if-not-is_fit.true)

pub returns-then-not-is_completed : goal.returns-then-not-is_completed
unfolding finish_of
returns-then-not-is_completed c =
    let fits = fit (goal.at.returns-then-not-is_completed c).After-is_fit in
    rw (← fits, c.if-not-is_fit.false, ← c.is_completed.ensures, c.if-not-is_completed.true)

pub returns : goal.returns
unfolding finish_of
returns c =
    let fits = fit (goal.at.returns c).After-is_fit in
    rw (← fits, c.if-not-is_fit.false, ← c.is_completed.ensures, c.if-not-is_completed.false)
