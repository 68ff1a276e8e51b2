-- A list is refused before the passes, or in the first, or built.
use Rattle.std.proofs.Common.{◌≡◌, rules}
use Rattle.std.specs.Prelude.{Err}
use Rattle.cdf_batch_turn.proofs.Twice.{unbegun, unjudged, twice}
use Rattle.cdf_batch.proofs.build.Goals as goal

pub returns-in_err-begun : goal.returns-in_err-begun
returns-in_err-begun c =
    let a = c.args in
    let told : c.from_residual.result ≡ Err (record { refusal = c.in_err-begun.field-0.0; rank = 0 }) = search rules in
    rw told (unbegun a.given a.buffer.now a.text.now a.list.now c.in_err-begun.field-0.0 c.in_err-begun.ensures)

pub returns-in_err-run_all : goal.returns-in_err-run_all
returns-in_err-run_all c =
    let a = c.args in
    let told : c.from_residual-in_err-run_all.result ≡ Err c.in_err-run_all.field-0.0 = search rules in
    rw told (unjudged a.given a.buffer.now a.text.now a.list.now c.in_ok-begun.ensures c.in_err-run_all.field-0.0 _ c.in_err-run_all.ensures)

pub returns : goal.returns
returns c =
    let a = c.args in
    twice a.given a.buffer.now a.text.now a.list.now c.in_ok-begun.ensures c.in_ok-run_all.field-0 _ c.in_ok-run_all.ensures
    c.run_all-2.result _ c.run_all-2.ensures
