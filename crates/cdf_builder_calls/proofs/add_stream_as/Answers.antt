-- What is decided, and where nothing is refused, what is written (proofs/Calling).
use Rattle.std.proofs.lemmas.Result.{err_from_is_err_and}
use Rattle.cdf_builder_spec.specs.Requests.{bytes_for}
use Rattle.cdf_builder_calls.proofs.Calling.{refusing, writing}
use Rattle.cdf_builder_calls.proofs.add_stream_as.Goals as goal

pub returns-in_err-place : goal.returns-in_err-place
returns-in_err-place c =
    let p = err_from_is_err_and c.from_residual.result c.from_residual.ensures.1 in
    rw (p.1, p.2) (refusing _ _ _ _ _ c.in_err-place.ensures)

pub returns : goal.returns
unfolding bytes_for
returns c = writing _ _ _ _ _ c.in_ok-place.ensures _ c.append_group.ensures
