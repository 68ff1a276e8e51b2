-- The claims of this crate, proved.
use Rattle.std.proofs.Common.{refl}
use Rattle.cdf_unit_list.specs.Units.{listing, depths}
use Rattle.cdf_unit_list.specs.Check.{check_of}
use Rattle.cdf_listing_spec.specs.Decimal.{digits_by, decimal}
use Rattle.cdf_listing_spec.specs.Text.{number, columns, line_of, lines_of, listed_lines, ok_line, refused_line, listing_text}
use Rattle.cdf_listing_spec.specs.Claims.{Claims}
use Rattle.cdf_listing_spec.proofs.Digits.{read_back}
use Rattle.cdf_listing_spec.proofs.Short.{short, roomy}

pub proved : Claims
unfolding digits_by decimal number columns line_of lines_of listed_lines ok_line refused_line listing_text check_of listing depths
proved = record {
  read_back = read_back;
  k1_text = refl;
  k6_text = refl;
  short = short;
  same_room = refl;
  roomy = roomy;
}
