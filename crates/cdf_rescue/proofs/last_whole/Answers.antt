-- The loop's invariant is proofs/Spans'.
use Rattle.cdf_unit_table.proofs.Parts.{rest}
use Rattle.cdf_rescue.proofs.Spans.{kept_none, kept_on}
use Rattle.cdf_rescue.proofs.last_whole.Goals as goal

pub loop-length-init : goal.loop-length-init
loop-length-init c = kept_none _ _ _ c.requires

pub loop-length-preserved : goal.loop-length-preserved
loop-length-preserved c =
    let w = simp rest at c.in-Some.ensures.is in
    kept_on _ _ _ _ _ c.loop-length.invariant w.0 (simp rest at c.in-Some.ensures.within) w.1
