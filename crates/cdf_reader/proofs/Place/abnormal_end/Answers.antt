-- The empty place and no unit.
use Rattle.std.proofs.Common.{refl}
use Rattle.cdf_reader_spec.specs.Slots.{open_units, open_ranks}
use Rattle.cdf_reader.proofs.Place.abnormal_end.Goals as goal

pub returns : goal.returns
unfolding open_units open_ranks
returns c = rw (c.from.ensures, c.moved.ensures, c.no_cursor.ensures) (record { is = refl; cleared = refl })
