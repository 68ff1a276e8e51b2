-- What is claimed of the numbers that cross to C. The term of this record stands in proofs/Proved.
use Rattle.std.specs.Prelude.{◌≡◌}
use Rattle.cdf_reader.specs.View.{view}
use Rattle.cdf_reader_numbers.specs.Numbers.{place_from, answer_numbers}
use Rattle.cdf_reader_numbers.specs.Samples.{given, place_due, answer, part, answer_due}

pub record Claims : Type 0 where
  -- Each number of a place means what the header says, and each of an answer too: with 25 and with ten different ones.
  pub place_read : view (place_from given) ≡ place_due
  pub answer_written : answer_numbers answer part ≡ answer_due
