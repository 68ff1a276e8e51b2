-- What is claimed of a list of requests (02, j), measured by single calls of the builder. The term of this record stands in proofs/Proved.
use Rattle.std.specs.Prelude.{ℕ, ◌≤◌, ◌<◌, ◌≡◌, true, false, List, [], ◌∷◌, ◌↔◌, length}
use Rattle.cdf_unit_prefix.specs.Layout.{Layout}
use Rattle.cdf_grammar.specs.Published.{Among}
use Rattle.cdf_builder_spec.specs.Place.{BuilderPlace, fits}
use Rattle.cdf_batch_spec.specs.declared.UnitRequest.{UnitRequest}
use Rattle.cdf_batch_spec.specs.Batches.{single_calls, batch_of}
use Rattle.cdf_batch_spec.specs.Refusing.{Taken, RefusedAt}
use Rattle.cdf_batch_spec.specs.Samples.{samples_found, samples_due, many_found, many_due}

-- For every layout, buffer, text, place and list.
pub record Claims : Type 0 where
  -- A list is built exactly if the place fits, there are at most 512 requests, all have good bounds, and each answers 0 singly.
  pub built : (l : Layout) (s text : List ℕ) (p : BuilderPlace) (rs : List UnitRequest) →
      ((batch_of l s text p rs).number ≡ 0) ↔ ((fits l (length s) p ≡ true) × (length rs ≤ 512) × Taken l s text p rs)
  -- Then place and buffer are those of the single calls, each given what the last one left.
  pub singly : (l : Layout) (s text : List ℕ) (p : BuilderPlace) (rs : List UnitRequest) → (batch_of l s text p rs).number ≡ 0 →
      batch_of l s text p rs
      ≡ record { number = 0; rank = 0; place = (single_calls l s text p rs).place; buffer = (single_calls l s text p rs).buffer }
  -- The number is 2 exactly if the place does not fit,
  pub unfit : (l : Layout) (s text : List ℕ) (p : BuilderPlace) (rs : List UnitRequest) →
      ((batch_of l s text p rs).number ≡ 2) ↔ (fits l (length s) p ≡ false)
  -- and 21 exactly if it does and there are more than 512 requests.
  pub many : (l : Layout) (s text : List ℕ) (p : BuilderPlace) (rs : List UnitRequest) →
      ((batch_of l s text p rs).number ≡ 21) ↔ ((fits l (length s) p ≡ true) × (512 < length rs))
  -- Beside 0, 2 and 21 the rank is 0.
  pub rankless : (l : Layout) (s text : List ℕ) (p : BuilderPlace) (rs : List UnitRequest) →
      Among (batch_of l s text p rs).number (0 ∷ 2 ∷ 21 ∷ []) → (batch_of l s text p rs).rank ≡ 0
  -- Any other number is due for the request at the rank, and those before it are taken.
  pub first : (l : Layout) (s text : List ℕ) (p : BuilderPlace) (rs : List UnitRequest) →
      ((batch_of l s text p rs).number ≡ 0 → ⊥) → ((batch_of l s text p rs).number ≡ 2 → ⊥) → ((batch_of l s text p rs).number ≡ 21 → ⊥) →
      RefusedAt l s text p rs (batch_of l s text p rs).number (batch_of l s text p rs).rank
  -- A refusal changes no byte and no place.
  pub none : (l : Layout) (s text : List ℕ) (p : BuilderPlace) (rs : List UnitRequest) → ((batch_of l s text p rs).number ≡ 0 → ⊥) →
      ((batch_of l s text p rs).place ≡ p) × ((batch_of l s text p rs).buffer ≡ s)
  -- An empty list at a place that fits changes nothing either, and is built.
  pub empty : (l : Layout) (s text : List ℕ) (p : BuilderPlace) → fits l (length s) p ≡ true →
      batch_of l s text p [] ≡ record { number = 0; rank = 0; place = p; buffer = s }
  -- Lists that are computed; 512 requests, and one more.
  pub samples : samples_found ≡ samples_due
  pub most : many_found ≡ many_due
