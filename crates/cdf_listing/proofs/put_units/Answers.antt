-- The loop ends, since each unit comes further.
use Rattle.std.proofs.Common.{refl, rules}
use Rattle.cdf_unit_data.specs.Standing.{name_row}
use Rattle.cdf_listing_spec.specs.Text.{line_of}
use Rattle.cdf_listing_lines.proofs.Putting.{put_length}
use Rattle.cdf_listing.proofs.Lining.{lined_first, lined_over, lined_ordered, lined_near, lined_next, lined_less}
use Rattle.cdf_listing.proofs.put_units.Goals as goal

pub loop-next-init : goal.loop-next-init
unfolding name_row
loop-next-init c =
    let a = c.args in (lined_first a.s.now a.out.now c.first_as-next.result c.first_as-next.ensures, refl)

pub overflow_sub-size : goal.overflow_sub-size
overflow_sub-size c = lined_ordered _ c.loop-next.invariant.0 c.in-Ok.a c.in-Ok.is

pub overflow_cast-at : goal.overflow_cast-at
overflow_cast-at c =
    let near = lined_near _ c.loop-next.invariant.0 c.in-Ok.a c.in-Ok.is in
    search rules

pub loop-next-smaller : goal.loop-next-smaller
loop-next-smaller c =
    let inv = c.loop-next.invariant in
    lined_less _ inv.0 c.in-Ok.a c.in-Ok.is _ inv.1 c.advance-next.result c.advance-next.ensures

pub loop-next-preserved : goal.loop-next-preserved
unfolding line_of
loop-next-preserved c =
    let inv = c.loop-next.invariant in
    (lined_next _ inv.0 c.in-Ok.a c.in-Ok.is _ inv.1 c.advance-next.result c.advance-next.ensures c.put_line-at.ensures, inv.1)

pub returns : goal.returns
returns c = lined_over _ c.loop-next.invariant.0 c.in_default.field-0 c.in_default.is

pub shape_of-out : goal.shape_of-out
shape_of-out c = put_length (returns c)
