-- 13, then 12.
use Rattle.std.proofs.Common.{lt-ltb, le-ltb}
use Rattle.cdf_builder_spec.specs.Calls.{room}
use Rattle.cdf_builder_faults.proofs.room.Goals as goal

pub returns-then-limit-size : goal.returns-then-limit-size
unfolding room
returns-then-limit-size c = rw (← c.limit.ensures, lt-ltb _ _ c.if-limit-size.true)

pub returns-then-n-size : goal.returns-then-n-size
unfolding room
returns-then-n-size c = rw (← c.limit.ensures, le-ltb _ _ c.if-limit-size.false, lt-ltb _ _ c.if-n-size.true)

pub returns : goal.returns
unfolding room
returns c = rw (← c.limit.ensures, le-ltb _ _ c.if-limit-size.false, le-ltb _ _ c.if-n-size.false)
