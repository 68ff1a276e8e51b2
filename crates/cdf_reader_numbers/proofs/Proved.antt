-- The claims of this crate, proved.
use Rattle.std.proofs.Common.{refl}
use Rattle.cdf_reader_spec.specs.Slots.{open_units, open_ranks}
use Rattle.cdf_reader_numbers.specs.Claims.{Claims}

pub proved : Claims
unfolding open_units open_ranks
proved = record { place_read = refl; answer_written = refl }
