-- What is claimed of the struct and of a step at any place. The term of this record stands in proofs/Proved.
use Rattle.std.specs.Prelude.{ℕ, ◌≤◌, ◌≡◌, true, List, length}
use Rattle.cdf_unit_prefix.specs.Layout.{Layout}
use Rattle.cdf_reader_spec.specs.Place.{ReaderPlace, fits}
use Rattle.cdf_reader_spec.specs.Calls.{next_of}
use Rattle.cdf_unit_data.specs.Standing.{name_row, row_bytes}
use Rattle.cdf_reader_advance.specs.Advancing.{advanced_by}
use Rattle.cdf_reader.specs.View.{view}
use Rattle.cdf_reader.specs.Words.{PlaceWords, StructWords}
use Rattle.cdf_reader.specs.declared.Place.{Place}

pub record Claims : Type 0 where
  -- Every place with at most four open units, a rank for each and all of its numbers below 2^64, is the view of some struct.
  pub viewed : (p : ReaderPlace) → length p.units ≤ 4 → length p.ranks ≡ length p.units → PlaceWords p →
      (q : Place) × StructWords q × (view q ≡ p)
  -- At a place that fits, a step at any place by 01's row is NEXT.
  pub advances : (row : List ℕ) → row ≡ name_row → (l : Layout) (s : List ℕ) (p : ReaderPlace) → fits l (length s) p ≡ true →
      advanced_by (row_bytes row) l s p ≡ next_of l s p
