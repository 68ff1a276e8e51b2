-- The claims of this crate, proved.
use Rattle.std.proofs.Common.{◌≡◌, refl}
use Rattle.cdf_explain_spec.specs.Samples.{samples_found, samples_due}
use Rattle.cdf_explain_spec.specs.Claims.{Claims}
use Rattle.cdf_explain_spec.proofs.Told.{accepted, refused_same, listed_open, inside, four, refused_start, ten}
use Rattle.cdf_explain_spec.proofs.Surrounding.{told_open, last_incomplete}
use Rattle.cdf_explain_spec.proofs.Admitted.{ids_rise, nested_ids, root_ids}
use Rattle.cdf_explain_spec.proofs.Exchanging.{stands_there, exchanged_id}

samples : samples_found ≡ samples_due
unfolding samples_found
samples = refl

pub proved : Claims
proved = record {
  samples = samples;
  accepted = accepted;
  refused = refused_same;
  listed = listed_open;
  inside = inside;
  four = four;
  stands = stands_there;
  told = told_open;
  incomplete = last_incomplete;
  rising = ids_rise;
  nested = nested_ids;
  rooted = root_ids;
  exchanged = exchanged_id;
  start = refused_start;
  ten = ten;
}
