-- The claims of this crate, proved.
use Rattle.cdf_reader_spec.proofs.Fitting.{fitting}
use Rattle.cdf_reader_spec.proofs.Opened.{at_most_four}
use Rattle.cdf_reader_runs.specs.Claims.{Claims}
use Rattle.cdf_reader_runs.proofs.Replies.{first_fits, next_fits}
use Rattle.cdf_reader_runs.proofs.Readings.{reads, begins}
use Rattle.cdf_reader_runs.proofs.Handed.{few}

pub proved : Claims
proved = record {
  reads = reads;
  begins = begins;
  few = few;
  first_fits = first_fits;
  next_fits = next_fits;
  four = λ l n p e. at_most_four p.units (fitting l n p e).kinds;
}
