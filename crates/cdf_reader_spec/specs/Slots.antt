-- Which place of document 01 a struct is. It holds the innermost open unit by itself and the units around it by their level; a
-- unit that it has no room for is one of zeros, so that every count means some place.
use Rattle.std.specs.Prelude.{ℕ, zero, suc, Bool, cond, List, [], ◌∷◌, eqb}
use Rattle.cdf_open_units.specs.declared.OpenUnits.{OpenUnits}
use Rattle.cdf_unit_list.specs.declared.Unit.{Unit}
use Rattle.cdf_unit_list.specs.declared.Open.{Open}
use Rattle.cdf_reader_spec.specs.Place.{ReaderPlace}
use Rattle.cdf_reader_spec.specs.declared.Ranks.{Ranks}

abbrev pub no_open : Open
no_open = record { state = 0; start = 0; end = 0 }

-- A struct that holds the innermost of some things by itself and up to three around it by their level, from 1, the outermost; `none`
-- stands where it has no room. The one at a level, if it is not the innermost.
abbrev pub slot_of : {A : Type 0} → A → A → A → A → ℕ → A
slot_of none o1 o2 o3 k = cond (eqb k 1) o1 (cond (eqb k 2) o2 (cond (eqb k 3) o3 none))

-- Those at the levels from k outwards.
unfoldable pub around_of : {A : Type 0} → A → A → A → A → ℕ → List A
around_of none o1 o2 o3 zero = []
around_of none o1 o2 o3 (suc k) = slot_of none o1 o2 o3 (suc k) ∷ around_of none o1 o2 o3 k

-- So many, the innermost first.
unfoldable pub held_of : {A : Type 0} → A → ℕ → A → A → A → A → List A
unfolding around_of
held_of none zero top o1 o2 o3 = []
held_of none (suc k) top o1 o2 o3 = top ∷ around_of none o1 o2 o3 k

-- The same of open units. Unfolding `open_units` unfolds the other two.
abbrev pub slot : Open → Open → Open → ℕ → Open
slot o1 o2 o3 k = slot_of no_open o1 o2 o3 k

unfoldable pub around : Open → Open → Open → ℕ → List Open
unfolding around_of
around o1 o2 o3 k = around_of no_open o1 o2 o3 k

unfoldable pub open_units : ℕ → Open → Open → Open → Open → List Open
unfolding around held_of
open_units count top o1 o2 o3 = held_of no_open count top o1 o2 o3

-- Those that a struct holds, and a struct of none: zeros.
abbrev pub opened : OpenUnits Open → List Open
opened u = open_units u.count u.top u.o1 u.o2 u.o3

abbrev pub no_units : OpenUnits Open
no_units = record { count = 0; top = no_open; o1 = no_open; o2 = no_open; o3 = no_open }

-- The ranks of no units: zeros.
abbrev pub no_ranks : Ranks
no_ranks = record { top = 0; r1 = 0; r2 = 0; r3 = 0; last = 0 }

-- The ranks of so many open units.
unfoldable pub open_ranks : ℕ → Ranks → List ℕ
unfolding held_of
open_ranks count k = held_of 0 count k.top k.r1 k.r2 k.r3

abbrev pub place_of : ℕ → ℕ → Open → Open → Open → Open → Unit → Bool → Ranks → ReaderPlace
place_of position count top o1 o2 o3 last fresh k = record {
  position = position;
  units = open_units count top o1 o2 o3;
  last = last;
  fresh = fresh;
  ranks = open_ranks count k;
  last_rank = k.last;
}
