-- What NEXT asks, in its order.
use Rattle.std.proofs.Common.{◌≡◌, refl, false, not, cond, List, ℕ, length}
use Rattle.cdf_unit_prefix.specs.Layout.{Layout}
use Rattle.cdf_reader_spec.specs.Place.{ReaderPlace, is_empty, fits}
use Rattle.cdf_reader_spec.specs.Calls.{refuse}
use Rattle.cdf_reader_advance.specs.Advancing.{advanced_with}
use Rattle.cdf_table_reader_spec.specs.Calls.{table_judge, table_next}

pub table_tests : (table : List ℕ) (l : Layout) (s : List ℕ) (p : ReaderPlace) →
    table_next table l s p
    ≡ cond (is_empty p) (refuse 11 0 p)
    (cond (not (fits l (length s) p)) (refuse 2 0 p) (advanced_with (table_judge table l false) s p))
unfolding table_next
table_tests table l s p = refl
