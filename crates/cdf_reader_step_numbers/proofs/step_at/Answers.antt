-- By the turn: a refusal, or the unit is entered (proofs/Leaving).
use Rattle.std.proofs.Common.{sym, ap, ◌∙◌}
use Rattle.cdf_unit_prefix.specs.Layout.{layout_of}
use Rattle.cdf_reader_cursor.specs.Outcomes.{reply_from}
use Rattle.cdf_reader.specs.Cursors.{cursor_of}
use Rattle.cdf_reader_turn.specs.Turning.{turned}
use Rattle.cdf_reader_step_numbers.proofs.Leaving.{refused, handed}
use Rattle.cdf_reader_step_numbers.proofs.step_at.Goals as goal

pub returns-in-Err : goal.returns-in-Err
returns-in-Err c =
    let a = c.args in
    let at = c.cursor.ensures ∙ ap cursor_of c.place_from.ensures in
    rw c.number.ensures (refused (layout_of a.edition) a.s.now a.place.now c.cursor.result at c.in-Err.fault
    (ap (λ r. reply_from c.cursor.result (turned c.cursor.result r)) (sym c.in-Err.is) ∙ c.turn.ensures) _ c.refuse.ensures)

pub returns-in-Ok : goal.returns-in-Ok
returns-in-Ok c =
    let a = c.args in
    let at = c.cursor.ensures ∙ ap cursor_of c.place_from.ensures in
    handed (layout_of a.edition) a.s.now a.place.now c.cursor.result at c.in-Ok.found
    (ap (λ r. reply_from c.cursor.result (turned c.cursor.result r)) (sym c.in-Ok.is) ∙ c.turn.ensures) _ _ c.enter.ensures c.hand.ensures
