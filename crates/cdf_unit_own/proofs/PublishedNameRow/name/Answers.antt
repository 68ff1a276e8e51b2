-- As by any row, with the constant one, which is 01's: one computation over all its entries.
use Rattle.std.proofs.Common.{refl}
use Rattle.cdf_unit_data.specs.Standing.{name_row}
use Rattle.cdf_unit_data.proofs.Standing.{row_is}
use Rattle.cdf_unit_own.proofs.PublishedNameRow.name.Goals as goal

pub returns : goal.returns
unfolding name_row
returns c = rw (row_is _ refl) at c.name.ensures
