-- The runs of specs/Samples, computed from the definitions alone.
use Rattle.std.proofs.Common.{◌≡◌, refl}
use Rattle.cdf_unit_table.specs.States.{unit_of, admits_kind, skipped}
use Rattle.cdf_reader_spec.specs.Place.{nested, every}
use Rattle.cdf_builder_spec.specs.Place.{past_prefix}
use Rattle.cdf_builder_runs.specs.Samples.{building, found, due}

pub computed : found ≡ due
unfolding building nested unit_of every skipped past_prefix admits_kind
computed = refl
