-- The text by the case of the check's answer.
use Rattle.std.proofs.Common.{sym, rules}
use Rattle.cdf_refusal.specs.Numbers.{number_of}
use Rattle.cdf_unit_prefix.specs.Layout.{layout_of}
use Rattle.cdf_unit_prefix.specs.declared.Edition.TheVariants.{First}
use Rattle.cdf_listing.proofs.Lining.{lines_near}
use Rattle.cdf_listing.proofs.Answered.{accepted, turned_down}
use Rattle.cdf_listing_lines.proofs.Putting.{put_both}
use Rattle.cdf_listing.proofs.put_listing.Goals as goal

pub overflow_cast-at : goal.overflow_cast-at
overflow_cast-at c = let near = lines_near _ c.put_units-at.ensures in search rules

pub returns-in-Ok : goal.returns-in-Ok
returns-in-Ok c =
    rw (accepted (layout_of First) c.args.s.now c.in-Ok.units (sym c.in-Ok.ensures.is))
    (put_both c.put_units-at.ensures c.put_ok.ensures)

pub returns-in-Err : goal.returns-in-Err
returns-in-Err c =
    let fault = c.in-Err.fault in
    rw (turned_down (layout_of First) c.args.s.now (number_of fault.refusal) fault.offset (sym c.in-Err.ensures.is), ← c.number.ensures)
    c.put_refused.ensures
