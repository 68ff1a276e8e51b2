-- The claims of this crate, proved.
use Rattle.cdf_reader_units_spec.specs.Claims.{Claims}
use Rattle.cdf_reader_units_spec.proofs.Batches.{empty, unfit, no_room, stops, goes_on}
use Rattle.cdf_reader_units_spec.proofs.Joining.{refused, within, fitting_after, joined, told_next}
use Rattle.cdf_reader_units_spec.proofs.Reading.{reads_units, reads_end}

pub proved : Claims
proved = record {
  empty = empty;
  unfit = unfit;
  no_room = no_room;
  stops = stops;
  goes_on = goes_on;
  refused = refused;
  within = within;
  fitting = fitting_after;
  joined = joined;
  told_next = told_next;
  reads = reads_units;
  ends = reads_end;
}
