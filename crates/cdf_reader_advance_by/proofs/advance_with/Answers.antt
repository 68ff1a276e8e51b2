-- What the turn came to.
use Rattle.std.proofs.Common.{sym, ap, ◌∙◌}
use Rattle.std.specs.Prelude.{Result}
use Rattle.std.proofs.lemmas.Result.{err_from_is_err_and}
use Rattle.cdf_refusal.specs.declared.Fault.{Fault}
use Rattle.cdf_reader_cursor.specs.Outcomes.{reply_from}
use Rattle.cdf_reader_turn.specs.Turning.{turned}
use Rattle.cdf_reader_turn.specs.declared.Reading.{Reading}
use Rattle.cdf_reader_advance_by.proofs.advance_with.Goals as goal

pub returns-in_err-found : goal.returns-in_err-found
returns-in_err-found g c =
    let p = err_from_is_err_and c.from_residual.result c.from_residual.ensures.1 in
    rw (p.1, p.2) (ap (λ (r : Result Reading Fault). reply_from c.args.c (turned c.args.c r)) (sym c.in_err-found.was) ∙ c.turn.ensures)

pub returns : goal.returns
returns g c =
    rw c.enter.ensures (ap (λ (r : Result Reading Fault). reply_from c.args.c (turned c.args.c r)) (sym c.in_ok-found.was) ∙ c.turn.ensures)
