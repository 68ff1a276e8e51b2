-- The claims of this crate, proved.
use Rattle.cdf_refusal.specs.Claims.{Claims}
use Rattle.cdf_refusal.proofs.Apart.{apart, refuses}

pub proved : Claims
proved = record {
  apart = apart;
  refuses = refuses;
}
