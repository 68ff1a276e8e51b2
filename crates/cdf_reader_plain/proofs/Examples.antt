-- The written-out runs, computed. No law is cited here, so that a wrong definition of a run is refused by its answers.
use Rattle.std.proofs.Common.{refl}
use Rattle.cdf_unit_table.specs.States.{unit_of, admits_kind}
use Rattle.cdf_unit_list.specs.Ranks.{ranked_units}
use Rattle.cdf_reader_spec.specs.Place.{nested, every, positioned, at_last}
use Rattle.cdf_reader_plain.specs.Runs.{reader_run, plain_run}
use Rattle.cdf_reader_plain.specs.Claims.{Examples}

pub examples : Examples
unfolding reader_run plain_run ranked_units nested every positioned at_last unit_of admits_kind
examples = record { example_k2 = (refl, refl, refl); example_k12 = (refl, refl, refl); example_k6 = refl }
