-- The lists of specs/Samples, computed from the definitions alone.
use Rattle.std.proofs.Common.{◌≡◌, refl}
use Rattle.cdf_unit_table.specs.States.{unit_of, admits_kind, skipped}
use Rattle.cdf_reader_spec.specs.Place.{nested, every}
use Rattle.cdf_builder_spec.specs.Place.{past_prefix}
use Rattle.cdf_batch_spec.specs.Samples.{tried, refuses, samples_found, samples_due, many_found, many_due}

pub computed : samples_found ≡ samples_due
unfolding tried refuses nested unit_of every skipped past_prefix admits_kind
computed = refl

pub most : many_found ≡ many_due
unfolding many_found refuses nested unit_of every skipped past_prefix admits_kind
most = refl
