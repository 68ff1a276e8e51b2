-- What is claimed of the table of units. The term of this record stands in proofs/Proved.
use Rattle.std.specs.Prelude.{ℕ, ◌≡◌, true}
use Rattle.cdf_unit_table.specs.States.{unit_of, skipped, admit, complete}
use Rattle.cdf_unit_table.specs.Tables.{states_found, states_due, kinds_found, kinds_due}

pub record Claims : Type 0 where
  -- The states of each unit, and the kinds that it admits, are those of 01's table.
  pub states : states_found ≡ states_due
  pub kinds : kinds_found ≡ kinds_due
  -- A unit that was skipped admits nothing, whatever the numbers,
  pub skipped_admits : (state child : ℕ) → admit (skipped state) child ≡ 0
  -- and is complete.
  pub skipped_complete : (state : ℕ) → (unit_of state ≡ 0 → ⊥) → complete (skipped state) ≡ true
