-- The loop keeps `Running` (proofs/Filling), and the row is 01's.
use Rattle.std.proofs.Common.{refl}
use Rattle.cdf_unit_data.specs.Standing.{name_row}
use Rattle.cdf_reader_units.proofs.Filling.{begun, full, stops_first, stops_later, on}
use Rattle.cdf_reader_units.proofs.run.Goals as goal

pub loop-count-init : goal.loop-count-init
unfolding name_row
loop-count-init c = (begun c.args.s.now c.args.p c.args.list.now c.requires.1, refl)

pub returns-then-count-eq0 : goal.returns-then-count-eq0
returns-then-count-eq0 c =
    let inv = c.loop-count.invariant in
    stops_first _ _ _ inv.0 c.loop-count-test.true _ inv.1 c.advance.result (rw c.requires.0 at c.advance.ensures) c.in-Err.fault c.in-Err.is
    c.if-count-eq0.true

pub returns-in-Err : goal.returns-in-Err
returns-in-Err c =
    let inv = c.loop-count.invariant in
    stops_later _ _ _ inv.0 c.loop-count-test.true _ inv.1 c.advance.result (rw c.requires.0 at c.advance.ensures) c.in-Err.fault c.in-Err.is
    c.if-count-eq0.false

pub loop-count-preserved : goal.loop-count-preserved
loop-count-preserved c =
    let inv = c.loop-count.invariant in (
      on _ _ _ inv.0 c.loop-count-test.true _ inv.1 c.advance.result (rw c.requires.0 at c.advance.ensures)
          c.in-Ok.a c.in-Ok.is _ c.write_unit.ensures,
      inv.1,
    )

pub returns : goal.returns
returns c = full _ _ _ c.loop-count.invariant.0 c.loop-count-test.false
