-- The loop's invariant is proofs/Scanning's.
use Rattle.std.proofs.Common.{◌-◌, ◌<◌, arith}
use Rattle.cdf_rescue.proofs.Scanning.{scan_begun, later, scan_on, scan_many, scan_all}
use Rattle.cdf_rescue.proofs.scan.Goals as goal

pub last_whole-at-requires : goal.last_whole-at-requires
last_whole-at-requires c = omega (arith, c.prefix-first.ensures.is, c.requires)

pub overflow_sub-kept : goal.overflow_sub-kept
overflow_sub-kept c = c.last_whole-at.ensures.low

pub loop-at-init : goal.loop-at-init
loop-at-init c = rw (← c.prefix-first.ensures.is) at (scan_begun _ _ _ _ c.default-runs.ensures (rw c.prefix-first.ensures.is at c.last_whole-at.ensures))

pub returns-then-count-eq64 : goal.returns-then-count-eq64
returns-then-count-eq64 c =
    scan_many _ _ _ _ _ _ c.loop-at.invariant c.loop-at-test.true c.if-count-eq64.true

pub next_whole-start-requires : goal.next_whole-start-requires
next_whole-start-requires c = c.loop-at.invariant.high

-- There is an entry for one run more.
few : (c : goal.After-next_whole-start) → c.loop-at.count < 64
few c = omega (arith, c.if-count-eq64.false, c.loop-at.invariant.few)

pub bounds-runs-count : goal.bounds-runs-count
bounds-runs-count c = few c

pub overflow_add-count : goal.overflow_add-count
overflow_add-count c = omega (arith, few c)

pub last_whole-at-requires-in-loop-at : goal.last_whole-at-requires-in-loop-at
last_whole-at-requires-in-loop-at c = c.next_whole-start.ensures.high

pub overflow_sub-kept-in-loop-at : goal.overflow_sub-kept-in-loop-at
overflow_sub-kept-in-loop-at c = c.last_whole-at-in-loop-at.ensures.low

pub overflow_add-kept : goal.overflow_add-kept
overflow_add-kept c =
    let g = c.loop-at.invariant in
    omega (arith, g.within, c.next_whole-start.ensures.low, c.last_whole-at-in-loop-at.ensures.low, c.last_whole-at-in-loop-at.ensures.high)

pub loop-at-smaller : goal.loop-at-smaller
loop-at-smaller c =
    let some = later _ _ _ _ _ _ c.loop-at.invariant c.loop-at-test.true _ c.next_whole-start.ensures in
    omega (arith, some, c.last_whole-at-in-loop-at.ensures.low, c.last_whole-at-in-loop-at.ensures.high)

pub loop-at-preserved : goal.loop-at-preserved
loop-at-preserved c =
    scan_on _ _ _ _ _ _ c.loop-at.invariant c.loop-at-test.true _ _ (omega (arith, c.if-count-eq64.false, c.loop-at.invariant.few)) c.next_whole-start.ensures
    c.last_whole-at-in-loop-at.ensures

pub returns : goal.returns
returns c = scan_all _ _ _ _ _ _ c.loop-at.invariant c.loop-at-test.false
