-- Where there is room, the place that is entered.
use Rattle.std.proofs.Common.{sym, ap, ◌∙◌}
use Rattle.std.specs.Prelude.{Option, ℕ}
use Rattle.cdf_builder_spec.specs.Place.{BuilderPlace}
use Rattle.cdf_builder_spec.specs.Calls.{Decision}
use Rattle.cdf_builder_spec.specs.Slots.{placed}
use Rattle.cdf_builder_enter.specs.Entering.{entered_in}
use Rattle.cdf_builder_enter.proofs.Entered.{entered_is}
use Rattle.cdf_builder_decide.proofs.grow.Goals as goal

abbrev done : BuilderPlace → Decision
done p = record { number = 0; place = p }

pub returns : goal.returns
returns c = λ k is growable.
    let a = c.args in
    let none = sym c.in_ok-room.ensures in
    let grew = entered_is a.p a.left.count a.left.top _ k (growable.slot none) in
    let entered = c.enter.ensures ∙ ap (entered_in a.p a.left.count a.left.top _) is in
    rw none (ap done (ap placed entered ∙ grew))
