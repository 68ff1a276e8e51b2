-- What a step leaves in the two arrays.
use Rattle.std.specs.Prelude.{ℕ, ◌≡◌, List}
use Rattle.cdf_unit_prefix.specs.Layout.{Layout}
use Rattle.cdf_reader_spec.specs.Calls.{Reply, no_part}
use Rattle.cdf_reader_advance.specs.Advancing.{advanced}
use Rattle.cdf_reader.specs.View.{view}
use Rattle.cdf_reader.specs.declared.Place.{Place}
use Rattle.cdf_reader_numbers.specs.Numbers.{place_from, numbers_of, answer_numbers}

-- The number and the answer's numbers are the reply's, and the place's numbers the reply's place by its view. Beside 0 they are written of some
-- struct with that view, and beside any other number they stay.
pub record Stepped (due : Reply) (before : List ℕ) (number : ℕ) (after answer : List ℕ) : Type 0 where
  pub told : number ≡ due.number
  pub answers : answer ≡ answer_numbers due no_part
  pub moves : view (place_from after) ≡ due.place
  pub stays : (number ≡ 0 → ⊥) → after ≡ before
  pub written : number ≡ 0 → (q : Place) × (view q ≡ due.place) × (after ≡ numbers_of q)

-- The reply that is due to a step at these numbers.
abbrev pub step_due : Layout → List ℕ → List ℕ → Reply
step_due l s numbers = advanced l s (view (place_from numbers))
