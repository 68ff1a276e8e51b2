-- The claims of this crate, proved.
use Rattle.std.proofs.Common.{◌≡◌, refl}
use Rattle.cdf_unit_table.specs.States.{unit_of, root_kind, admits_kind, nothing, complete}
use Rattle.cdf_reader_spec.specs.Place.{nested, every, positioned, at_last, clauses}
use Rattle.cdf_reader_spec.specs.NearMisses.{misses_found, misses_due, eighth_found, eighth_due}
use Rattle.cdf_reader_spec.specs.Refusals.{refusals_found, refusals_due}
use Rattle.cdf_reader_spec.specs.Standing.{stands_found, stands_due, closed_found, closed_due}
use Rattle.cdf_reader_spec.specs.Claims.{Claims}
use Rattle.cdf_reader_spec.proofs.Telling.{first_told, next_told, previous_told, next_cases, next_closes, next_first, next_sibling}
use Rattle.cdf_reader_spec.proofs.Telling.{skip_keeps, take_keeps}

decides : misses_found ≡ misses_due
unfolding misses_found clauses nested every positioned at_last unit_of root_kind admits_kind nothing
decides = refl

eighth : eighth_found ≡ eighth_due
unfolding eighth_found clauses nested every positioned at_last unit_of root_kind admits_kind nothing
eighth = refl

refuses : refusals_found ≡ refusals_due
unfolding refusals_found clauses nested every positioned at_last unit_of root_kind admits_kind nothing
refuses = refl

stands : stands_found ≡ stands_due
unfolding stands_found clauses nested every positioned at_last unit_of root_kind admits_kind nothing
stands = refl

closed : closed_found ≡ closed_due
unfolding closed_found complete
closed = refl

pub proved : Claims
proved = record {
  decides = decides;
  eighth = eighth;
  refuses = refuses;
  stands = stands;
  closed = closed;
  first_told = first_told;
  next_told = next_told;
  previous_told = previous_told;
  next_cases = next_cases;
  next_closes = next_closes;
  next_first = next_first;
  next_sibling = next_sibling;
  skip_keeps = skip_keeps;
  take_keeps = take_keeps;
}
