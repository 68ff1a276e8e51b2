-- Where there is no room, and where there is.
use Rattle.cdf_resolve.proofs.Keeping.{hold_full, hold_new, hold_doubled}
use Rattle.cdf_resolve.proofs.hold.Goals as goal

pub returns-then-t-eq256 : goal.returns-then-t-eq256
returns-then-t-eq256 c =
    let a = c.args in
    λ p k. hold_full _ a.s.now p a.t _ k a.owner c.if-t-eq256.true

pub returns-in-None : goal.returns-in-None
returns-in-None c =
    let a = c.args in
    λ p k. hold_new _ a.s.now p a.t _ k a.owner c.if-t-eq256.false c.requires.1 _ c.find-found.ensures c.in-None.is

pub returns-in-Some : goal.returns-in-Some
returns-in-Some c =
    let a = c.args in
    λ p k.
    rw c.doubled_at.ensures
    (hold_doubled _ a.s.now p a.t _ k a.owner c.if-t-eq256.false c.requires.1 _ c.find-found.ensures _ c.in-Some.is)
