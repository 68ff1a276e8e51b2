-- What is claimed of the struct. The term of this record stands in proofs/Proved.
use Rattle.std.specs.Prelude.{◌≤◌, ◌≡◌, length}
use Rattle.cdf_builder_spec.specs.Place.{BuilderPlace}
use Rattle.cdf_builder.specs.View.{view}
use Rattle.cdf_builder.specs.Words.{PlaceWords, StructWords}
use Rattle.cdf_builder.specs.declared.Builder.{Builder}

pub record Claims : Type 0 where
  -- Every place with at most four open units, all of its numbers below 2^64, is the view of some struct.
  pub viewed : (p : BuilderPlace) → length p.units ≤ 4 → PlaceWords p → (q : Builder) × StructWords q × (view q ≡ p)
