-- The list is filled and the answer written, and then the place, or it stays (proofs/Leaving).
use Rattle.std.proofs.Common.{refl}
use Rattle.cdf_reader_units_c.proofs.Leaving.{leaves_old, leaves_new}
use Rattle.cdf_reader_units_c.proofs.cdf_units.Goals as goal

pub returns-then-f-ne0 : goal.returns-then-f-ne0
returns-then-f-ne0 c =
    leaves_new (rw c.in-Ok.is at (rw c.place_from.ensures at c.fill.ensures)) c.if-f-ne0.true _ c.write_place.ensures

pub returns-else-f-ne0 : goal.returns-else-f-ne0
returns-else-f-ne0 c =
    leaves_old (rw c.in-Ok.is at (rw c.place_from.ensures at c.fill.ensures)) c.if-f-ne0.false

pub returns-in-Err : goal.returns-in-Err
returns-in-Err c =
    rw c.number.ensures (leaves_old (rw c.in-Err.is at (rw c.place_from.ensures at c.fill.ensures)) refl)
