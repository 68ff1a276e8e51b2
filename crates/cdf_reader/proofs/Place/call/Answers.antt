-- The place is given back where the cursor is.
use Rattle.std.proofs.Common.{ap, ◌∙◌}
use Rattle.cdf_reader.specs.Cursors.{place_with}
use Rattle.cdf_reader.specs.declared.Answer.{Answer}
use Rattle.cdf_reader.proofs.Place.call.Goals as goal

pub returns-clause-again : goal.returns-clause-again
returns-clause-again c = λ e.
    ap (λ (a : Answer). a.place) c.into.ensures ∙ ap place_with (c.in_ok-call_at.ensures.again e ∙ c.cursor.ensures)
