-- By the state: what the tests say is what the definition asks.
use Rattle.std.proofs.Common.{lt-ltb, le-ltb}
use Rattle.cdf_lookup_spec.specs.Search.{advance_of}
use Rattle.cdf_lookup_search.proofs.advance.Goals as goal

pub returns-then-holds : goal.returns-then-holds
unfolding advance_of
returns-then-holds c = rw (c.in-Seeking.is, ← c.holds.ensures, c.if-holds.true)

pub returns-then-not-holds : goal.returns-then-not-holds
unfolding advance_of
returns-then-not-holds c = rw (c.in-Named.is, ← c.holds-in-Named.ensures, c.if-not-holds.true)

pub returns-then-u-end : goal.returns-then-u-end
unfolding advance_of
returns-then-u-end c = rw (c.in-Inside.is, le-ltb _ _ c.if-u-end.true)

pub returns-then-holds-2 : goal.returns-then-holds-2
unfolding advance_of
returns-then-holds-2 c =
    rw (
      c.in-Inside.is,
      lt-ltb _ _ c.if-u-end.false,
      ← c.holds-in-Inside.ensures,
      c.if-holds-2.true,
    )

pub returns-else-holds : goal.returns-else-holds
unfolding advance_of
returns-else-holds c = rw (c.in-Seeking.is, ← c.holds.ensures, c.if-holds.false)

pub returns-else-not-holds : goal.returns-else-not-holds
unfolding advance_of
returns-else-not-holds c = rw (c.in-Named.is, ← c.holds-in-Named.ensures, c.if-not-holds.false)

pub returns-else-holds-2 : goal.returns-else-holds-2
unfolding advance_of
returns-else-holds-2 c =
    rw (c.in-Inside.is, lt-ltb _ _ c.if-u-end.false, ← c.holds-in-Inside.ensures, c.if-holds-2.false)

pub returns-in-Over : goal.returns-in-Over
unfolding advance_of
returns-in-Over c = rw c.in-Over.is
