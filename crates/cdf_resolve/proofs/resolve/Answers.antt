-- The check first.
use Rattle.std.proofs.Common.{ap, refl}
use Rattle.std.proofs.lemmas.Result.{err_from_is_err_and}
use Rattle.cdf_check.specs.Answers.{checked}
use Rattle.cdf_resolve.proofs.Answering.{accepts, by_check}
use Rattle.cdf_resolve.proofs.resolve.Goals as goal

pub resolve_accepted-requires : goal.resolve_accepted-requires
resolve_accepted-requires c =
    accepts _ c.args.s.now c.args.list.now _ c.check.ensures.answer _ (ap checked c.in_ok-check.was)

pub returns-in_err-check : goal.returns-in_err-check
returns-in_err-check c =
    let a = c.args in
    let p = err_from_is_err_and c.from_residual.result c.from_residual.ensures.1 in
    let all = by_check _ a.s.now a.list.now _ c.check.ensures.answer c.check.ensures.is _ _ (ap checked c.in_err-check.was) _ refl in
    record { is = rw (p.1, p.2) all.0; ranks = all.1 }
