-- What is claimed of a place's rule, of the calls that it refuses, and of the depth and rank that the others tell. The term of this
-- record stands in proofs/Proved.
use Rattle.std.specs.Prelude.{ℕ, suc, ◌≡◌, ◌⊎◌, List, ◌∷◌}
use Rattle.cdf_unit_prefix.specs.Layout.{Layout}
use Rattle.cdf_reader_spec.specs.Place.{ReaderPlace}
use Rattle.cdf_reader_spec.specs.Calls.{first_of, next_of, skip_of, take_of, previous_of}
use Rattle.cdf_reader_spec.specs.Depths.{LastOf, StandsIn, NoneCloses, OutermostClosed, Kept}
use Rattle.cdf_reader_spec.specs.NearMisses.{misses_found, misses_due, eighth_found, eighth_due}
use Rattle.cdf_reader_spec.specs.Refusals.{refusals_found, refusals_due}
use Rattle.cdf_reader_spec.specs.Standing.{stands_found, stands_due, closed_found, closed_due}

pub record Claims : Type 0 where
  -- Each clause decides: a place may break it and keep all others. How many units are open and that their numbers are states
  -- follows from their kinds.
  pub decides : misses_found ≡ misses_due
  -- The limit of a rank goes by the layout: an eighth of the position in the second edition.
  pub eighth : eighth_found ≡ eighth_due
  -- The empty place gets 11, one that does not fit 2, and 11 comes before 2.
  pub refuses : refusals_found ≡ refusals_due
  -- Depth and rank go by starts and by what closes: by no flag, no id, and no count of what was skipped.
  pub stands : stands_found ≡ stands_due
  -- Closing takes the ranks of the units that close, and nothing else of a place.
  pub closed : closed_found ≡ closed_due
  -- 02, g, of any place. The unit that is handed out is as deep as units are open, and one deeper if it is not the innermost of them, by
  -- start: at the place that a start or NEXT returns, and at the one that PREVIOUS is given.
  pub first_told : (l : Layout) (s : List ℕ) → (first_of l s).number ≡ 0 → LastOf (first_of l s).place (first_of l s).handed
  pub next_told : (l : Layout) (s : List ℕ) (p : ReaderPlace) → (next_of l s p).number ≡ 0 → LastOf (next_of l s p).place (next_of l s p).handed
  pub previous_told : (l : Layout) (s : List ℕ) (p : ReaderPlace) → (previous_of l s p).number ≡ 0 → LastOf p (previous_of l s p).handed
  -- Where NEXT hands out a unit, it has closed some or none.
  pub next_cases : (l : Layout) (s : List ℕ) (p : ReaderPlace) → (next_of l s p).number ≡ 0 → OutermostClosed p ⊎ NoneCloses p
  -- The outermost closed has the rank just below the unit's;
  pub next_closes : (l : Layout) (s : List ℕ) (p : ReaderPlace) (c : OutermostClosed p) → (next_of l s p).number ≡ 0 →
      StandsIn (c.parent ∷ c.around) c.around_ranks (suc c.rank) (next_of l s p)
  -- with none closed the unit's is 0, if the last unit is the innermost open one, by start,
  pub next_first : (l : Layout) (s : List ℕ) (p : ReaderPlace) (c : NoneCloses p) → p.last.start ≡ c.innermost.start →
      (next_of l s p).number ≡ 0 → StandsIn p.units p.ranks 0 (next_of l s p)
  -- and otherwise one above the last's.
  pub next_sibling : (l : Layout) (s : List ℕ) (p : ReaderPlace) (c : NoneCloses p) → (p.last.start ≡ c.innermost.start → ⊥) →
      (next_of l s p).number ≡ 0 → StandsIn p.units p.ranks (suc p.last_rank) (next_of l s p)
  -- SKIP and GET_STREAM keep the ranks, and PREVIOUS hands out the same after them as before.
  pub skip_keeps : (l : Layout) (s : List ℕ) (p : ReaderPlace) → (skip_of l s p).number ≡ 0 → Kept l s p (skip_of l s p)
  pub take_keeps : (l : Layout) (s : List ℕ) (p : ReaderPlace) → (take_of l s p).number ≡ 0 → Kept l s p (take_of l s p)
