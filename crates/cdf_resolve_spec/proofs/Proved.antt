-- The claims of this crate, proved.
use Rattle.std.proofs.Common.{◌≡◌, refl}
use Rattle.cdf_resolve_spec.specs.Samples.{samples_found, samples_due}
use Rattle.cdf_resolve_spec.specs.Claims.{Claims}
use Rattle.cdf_resolve_spec.proofs.Claiming.{check_first, seven_is, many_is, nineteen_is, twenty_is, doubled_first, lacking_first}
use Rattle.cdf_resolve_spec.proofs.Claiming.{offset_none, ranks_told_by, short_is, none_counted, list_stays}
use Rattle.cdf_resolve_spec.proofs.Exact.{exactly_is}

samples : samples_found ≡ samples_due
unfolding samples_found
samples = refl

pub proved : Claims
proved = record {
  samples = samples;
  checked = check_first;
  seven = seven_is;
  many = many_is;
  order = nineteen_is;
  then = twenty_is;
  exactly = exactly_is;
  doubled = doubled_first;
  lacking = lacking_first;
  offset = offset_none;
  ranks = ranks_told_by;
  short = short_is;
  none = none_counted;
  stays = list_stays;
}
