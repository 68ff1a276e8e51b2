-- The words in which the claims speak of a list that is refused, by single calls of the builder alone.
use Rattle.std.specs.Prelude.{ℕ, ◌≡◌, true, false, List, [], ◌∷◌, ◌++◌, map, ◌⊎◌, length}
use Rattle.cdf_unit_prefix.specs.Layout.{Layout}
use Rattle.cdf_grammar.specs.Published.{Among}
use Rattle.cdf_builder_spec.specs.Place.{BuilderPlace}
use Rattle.cdf_builder_spec.specs.Calls.{Reply}
use Rattle.cdf_builder_runs.specs.Runs.{answer, AllDone}
use Rattle.cdf_batch_spec.specs.declared.UnitRequest.{UnitRequest}
use Rattle.cdf_batch_spec.specs.Asking.{bounded, with, asked}
use Rattle.cdf_batch_spec.specs.Batches.{from, single_calls}

-- All of these have good bounds,
abbrev pub AllBounded : List ℕ → List UnitRequest → Type 0
AllBounded text [] = record {}
AllBounded text (r ∷ rs) = (bounded text r ≡ true) × AllBounded text rs

-- and each of them answers 0 singly.
pub record Taken (l : Layout) (s text : List ℕ) (p : BuilderPlace) (rs : List UnitRequest) : Type 0 where
  pub bounds : AllBounded text rs
  pub calls : AllDone l (from p s) (map (asked text) rs)

-- A rule that is asked before the own data is looked at.
abbrev pub Early : ℕ → Type 0
Early n = Among n (6 ∷ 7 ∷ 10 ∷ 8 ∷ [])

-- This number is due for the request after the calls that replied `a`: the one that it answers singly;
abbrev pub RefusesGood : Layout → List ℕ → Reply → UnitRequest → ℕ → Type 0
RefusesGood l text a r n = (bounded text r ≡ true) × ((answer l a (asked text r)).number ≡ n)

-- or its bounds are bad, and every text makes a single call answer this early one;
abbrev pub RefusesEarly : Layout → List ℕ → Reply → UnitRequest → ℕ → Type 0
RefusesEarly l text a r n = (bounded text r ≡ false) × Early n × ((own : List ℕ) → (answer l a (with r own)).number ≡ n)

-- or they are bad, no text makes a single call answer an early one, and the number is 9.
abbrev pub RefusesNine : Layout → List ℕ → Reply → UnitRequest → ℕ → Type 0
RefusesNine l text a r n = (bounded text r ≡ false) × ((own : List ℕ) → Early (answer l a (with r own)).number → ⊥) × (n ≡ 9)

-- A list that is refused at one of its requests: those before it are taken.
pub record RefusedAt (l : Layout) (s text : List ℕ) (p : BuilderPlace) (rs : List UnitRequest) (number rank : ℕ) : Type 0 where
  pub before : List UnitRequest
  pub refused : UnitRequest
  pub behind : List UnitRequest
  pub parts : rs ≡ before ++ (refused ∷ behind)
  pub ranked : length before ≡ rank
  pub taken : Taken l s text p before
  pub due : RefusesGood l text (single_calls l s text p before) refused number
      ⊎ (RefusesEarly l text (single_calls l s text p before) refused number
      ⊎ RefusesNine l text (single_calls l s text p before) refused number)
