-- The claims of this crate, proved.
use Rattle.std.proofs.Common.{◌≡◌, refl}
use Rattle.cdf_lookup_spec.specs.Samples.{samples_found, samples_due}
use Rattle.cdf_lookup_spec.specs.Claims.{Claims}
use Rattle.cdf_lookup_spec.proofs.Choosing.{named_one, chosen_part, second_lacks, equal_first, both_lack, refused_empty}
use Rattle.cdf_lookup_spec.proofs.Deciding.{first_checked, second_checked, seven_is, grouped_answers, first_found, offset_none}

samples : samples_found ≡ samples_due
unfolding samples_found
samples = refl

pub proved : Claims
proved = record {
  samples = samples;
  checked = first_checked;
  then_checked = second_checked;
  seven = seven_is;
  answers = grouped_answers;
  first = first_found;
  offset = offset_none;
  named = named_one;
  value = chosen_part;
  second = second_lacks;
  equal = equal_first;
  missing = both_lack;
  refused = refused_empty;
}
