-- What is decided, and where nothing is refused, what is written (proofs/Calling).
use Rattle.std.proofs.lemmas.Result.{err_from_is_err_and}
use Rattle.cdf_builder_calls.proofs.Calling.{unit_bytes_lem, refusing, writing}
use Rattle.cdf_builder_calls.proofs.next_as.Goals as goal

pub returns-in_err-place : goal.returns-in_err-place
returns-in_err-place c =
    let p = err_from_is_err_and c.from_residual.result c.from_residual.ensures.1 in
    rw (p.1, p.2) (refusing _ _ _ _ _ c.in_err-place.ensures)

pub returns : goal.returns
returns c =
    let decided = c.in_ok-place.ensures in
    writing _ _ _ _ _ decided _ (rw (unit_bytes_lem _ _ _ _ _ decided) at c.append_unit.ensures)
