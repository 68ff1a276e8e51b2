-- The claims of this crate, proved.
use Rattle.std.proofs.Common.{◌≡◌, refl}
use Rattle.cdf_unit_table.specs.States.{unit_of, root_kind, admits_kind, skipped}
use Rattle.cdf_reader_spec.specs.Place.{nested, every}
use Rattle.cdf_builder_spec.specs.Place.{past_prefix, clauses}
use Rattle.cdf_builder_spec.specs.NearMisses.{misses_found, misses_due}
use Rattle.cdf_builder_spec.specs.Claims.{Claims}
use Rattle.cdf_builder_spec.proofs.Fitting.{at_most_four, fitting}
use Rattle.cdf_builder_spec.proofs.Replying.{start_kept, call_kept}
use Rattle.cdf_builder_spec.proofs.Keeping.{start_fits, call_fits}
use Rattle.cdf_builder_spec.proofs.Orders.{start_order, next_order, add_order, finish_order, decided}

decides : misses_found ≡ misses_due
unfolding misses_found clauses nested every past_prefix unit_of root_kind admits_kind skipped
decides = refl

pub proved : Claims
proved = record {
  decides = decides;
  start_fits = start_fits;
  call_fits = call_fits;
  refused_start = start_kept;
  refused_stays = call_kept;
  four = λ l n p e. at_most_four p.units (fitting l n p e).kinds;
  start_order = start_order;
  next_order = next_order;
  add_order = add_order;
  finish_order = finish_order;
  decided = decided;
}
