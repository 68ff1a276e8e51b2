-- The claims of this crate, proved.
use Rattle.std.proofs.Common.{refl}
use Rattle.cdf_unit_data.specs.Standing.{name_row}
use Rattle.cdf_unit_data.specs.Claims.{Claims}
use Rattle.cdf_unit_data.proofs.Pointing.{offends, mends}
use Rattle.cdf_unit_data.proofs.Standing.{row_is}
use Rattle.cdf_unit_data.proofs.Bounded.{names, values, cut_short, too_long}

pub proved : Claims
proved = record {
  offends = offends;
  mends = mends;
  names = names;
  values = values;
  cut_short = cut_short;
  too_long = too_long;
  row_says = row_is name_row refl;
}
