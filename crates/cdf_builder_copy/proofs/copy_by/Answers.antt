-- The last N begin where all before them are copied, and end where the bytes end.
use Rattle.std.proofs.Common.{◌-◌, arith, length}
use Rattle.cdf_builder_copy.proofs.Copying.{copied_lent, copied_all}
use Rattle.cdf_builder_copy.proofs.copy_by.Goals as goal

pub loop-at-preserved : goal.loop-at-preserved
loop-at-preserved g c =
    let so = c.loop-at in
    copied_lent so.at g.row.N so.invariant (omega arith) (omega arith) (omega arith) (omega arith) c.copy_first.new.tail c.copy_first.ensures

pub returns : goal.returns
returns g c =
    let a = c.args in
    copied_all (copied_lent (length a.bytes.now - g.row.N) g.row.N c.loop-at.invariant (omega arith) (omega arith) (omega arith) (omega arith)
    c.copy_first-2.new.tail c.copy_first-2.ensures) (omega arith)
