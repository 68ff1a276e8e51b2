-- What is claimed of a step at any place, by any name bytes, in words that compute nothing; that with 01's it is NEXT at a place that fits is
-- a claim of cdf_reader. The term of this record stands in proofs/Proved.
use Rattle.std.specs.Prelude.{ℕ, ◌≤◌, ◌<◌, ◌≡◌, List, [], ◌∷◌, ◌⊎◌, length}
use Rattle.cdf_unit_prefix.specs.Layout.{Layout}
use Rattle.cdf_unit_data.specs.Data.{NameBytes}
use Rattle.cdf_unit_list.specs.Stack.{Step, done, refused, found, step_by}
use Rattle.cdf_unit_list.specs.declared.Open.{Open}
use Rattle.cdf_reader_spec.specs.Place.{ReaderPlace}
use Rattle.cdf_reader_spec.specs.Closing.{unclosed}
use Rattle.cdf_reader_spec.specs.Ranking.{next_rank}
use Rattle.cdf_reader_spec.specs.Calls.{refuse, stepped}
use Rattle.cdf_reader_advance.specs.Advancing.{rank_on, advanced_by}

-- What a step from a place comes to, as NEXT's does once the place is known to fit.
abbrev pub next_step : NameBytes → Layout → List ℕ → ReaderPlace → Step
next_step w l s p = step_by w l s p.units p.position

-- The innermost of these units does not end at the position, and this is not behind its start and before its end, or it ends behind the
-- n bytes: a unit in it could not be read.
abbrev pub NoPart : ℕ → ℕ → List Open → Type 0
NoPart n pos [] = ⊥
NoPart n pos (o ∷ os) = (o.end ≡ pos → ⊥) × ((pos ≤ o.start) ⊎ ((o.end ≤ pos) ⊎ (n < o.end)))

-- Behind the unit that is found five or more would be open, or the rank before it is no lower than the position.
abbrev pub NoRoom : ReaderPlace → Step → Type 0
NoRoom p done = ⊥
NoRoom p (refused n at) = ⊥
NoRoom p (found u os pos) = (5 ≤ length os) ⊎ (p.position < rank_on p)

abbrev pub Unstepped : NameBytes → Layout → List ℕ → ReaderPlace → Type 0
Unstepped w l s p = NoPart (length s) p.position (unclosed p.units p.position) ⊎ NoRoom p (next_step w l s p)

pub record Claims : Type 0 where
  -- There no step is done: 99, and the place stays.
  pub unstepped : (w : NameBytes) (l : Layout) (s : List ℕ) (p : ReaderPlace) → Unstepped w l s p → advanced_by w l s p ≡ refuse 99 0 p
  -- At every other place, fitting or not, it is what NEXT does behind its tests of the place,
  pub steps : (w : NameBytes) (l : Layout) (s : List ℕ) (p : ReaderPlace) → (Unstepped w l s p → ⊥) →
      advanced_by w l s p ≡ stepped p (next_step w l s p)
  -- whose numbers go up to 10: so 99 is a number of its own.
  pub told : (w : NameBytes) (l : Layout) (s : List ℕ) (p : ReaderPlace) → (stepped p (next_step w l s p)).number ≤ 10
  -- The rank that is asked is one above the one before: the next unit's, if this is not the first in its parent.
  pub ranked : (p : ReaderPlace) → (next_rank p ≡ 0) ⊎ (next_rank p ≡ rank_on p)
