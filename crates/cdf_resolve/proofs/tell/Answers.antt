-- What is found is told.
use Rattle.cdf_resolve.proofs.Keeping.{tell_none, tell_rank}
use Rattle.cdf_resolve.proofs.tell.Goals as goal

pub returns-in-None : goal.returns-in-None
returns-in-None c =
    let a = c.args in
    λ before p k w.
    rw c.lacking_at.ensures
    (tell_none _ a.s.now p a.t _ k a.owner before a.list.now w _ c.find.ensures c.in-None.is)

pub returns-in-Some : goal.returns-in-Some
returns-in-Some c =
    let a = c.args in
    λ before p k w.
    rw c.put.ensures
    (tell_rank _ a.s.now p a.t _ k a.owner before a.list.now w _ c.find.ensures _ c.in-Some.is)
