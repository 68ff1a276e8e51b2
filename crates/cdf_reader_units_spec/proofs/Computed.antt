-- The batches of the samples, computed. No law is cited here, so that a wrong definition is refused by its answers.
use Rattle.std.proofs.Common.{refl}
use Rattle.cdf_unit_table.specs.States.{unit_of, root_kind, admits_kind, nothing}
use Rattle.cdf_reader_spec.specs.Place.{nested, every, positioned, at_last, clauses}
use Rattle.cdf_reader_units_spec.specs.Batch.{batch_of}
use Rattle.cdf_reader_units_spec.specs.Samples.{two_of}
use Rattle.cdf_reader_units_spec.specs.Claims.{Examples}

pub examples : Examples
unfolding two_of batch_of clauses nested every positioned at_last unit_of root_kind admits_kind nothing
examples = record {
  example_room = refl;
  example_fault = refl;
  example_end = refl;
  example_none = refl;
  example_unfit = refl;
  example_empty = refl;
}
