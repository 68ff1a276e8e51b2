-- What the call leaves in the numbers that cross to C.
use Rattle.std.specs.Prelude.{ℕ, ◌≡◌, List, [], ◌∷◌, length}
use Rattle.cdf_reader.specs.View.{view}
use Rattle.cdf_reader.specs.declared.Place.{Place}
use Rattle.cdf_reader_numbers.specs.Numbers.{place_from, numbers_of}
use Rattle.cdf_reader_units_spec.specs.Batch.{Batch}
use Rattle.cdf_reader_units.specs.Filling.{list_after, batch_for}

-- The batch that is due to the place that these numbers are, and to a list.
abbrev pub batch_to : List ℕ → List ℕ → List ℕ → Batch
batch_to s place list = batch_for s (place_from place) list

-- The number; the offset and how many units; the place by its view, whose numbers stay where there is no unit, and else are written of some
-- struct with that view, the flag as 1 or 0; and the list with the units at its front.
pub record Batched (s before list : List ℕ) (number : ℕ) (after listed answer : List ℕ) : Type 0 where
  pub told : number ≡ (batch_to s before list).number
  pub answers : answer ≡ (batch_to s before list).offset ∷ length (batch_to s before list).units ∷ []
  pub moves : view (place_from after) ≡ (batch_to s before list).place
  pub stays : (batch_to s before list).units ≡ [] → after ≡ before
  pub written : ((batch_to s before list).units ≡ [] → ⊥) → (q : Place) × (view q ≡ (batch_to s before list).place) × (after ≡ numbers_of q)
  pub fills : listed ≡ list_after (batch_to s before list).units list
