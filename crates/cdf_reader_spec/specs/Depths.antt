-- What 02, g says of depth and rank at any place that fits, in its words: by starts and ends, and by no definition of Ranking and Closing.
use Rattle.std.specs.Prelude.{ℕ, suc, ◌≡◌, cond, List, ◌∷◌, ◌++◌, length}
use Rattle.cdf_unit_table.specs.States.{opens}
use Rattle.cdf_unit_prefix.specs.Layout.{Layout}
use Rattle.cdf_unit_list.specs.declared.Open.{Open}
use Rattle.cdf_unit_list.specs.declared.Ranked.{Ranked}
use Rattle.cdf_reader_spec.specs.Place.{ReaderPlace}
use Rattle.cdf_reader_spec.specs.Calls.{Reply, previous_of}

-- The last unit of a place as it is handed out: with its rank, and as deep as units are open, one more if it is not the innermost of
-- them, by start.
pub record LastOf (p : ReaderPlace) (r : Ranked) : Type 0 where
  pub unit : r.unit ≡ p.last
  pub rank : r.rank ≡ p.last_rank
  pub innermost : (o : Open) (os : List Open) → p.units ≡ o ∷ os → p.last.start ≡ o.start → r.depth ≡ length p.units
  pub other : (o : Open) (os : List Open) → p.units ≡ o ∷ os → (p.last.start ≡ o.start → ⊥) → r.depth ≡ suc (length p.units)

-- A unit handed out that stands directly in the first of these open units, which have these ranks, with a rank of its own: if it is
-- opened, that comes before theirs.
pub record StandsIn (around : List Open) (theirs : List ℕ) (own : ℕ) (r : Reply) : Type 0 where
  pub depth : r.handed.depth ≡ suc (length around)
  pub rank : r.handed.rank ≡ own
  pub ranks : r.place.ranks ≡ cond (opens r.handed.unit.id) (own ∷ theirs) theirs

-- No unit ends at the position: the innermost does not.
pub record NoneCloses (p : ReaderPlace) : Type 0 where
  pub innermost : Open
  pub around : List Open
  pub units : p.units ≡ innermost ∷ around
  pub stays : innermost.end ≡ p.position → ⊥

-- The outermost of the open units that end at the position, with its rank, and what is inside and around it. What is inside ends there
-- too, since the place fits.
pub record OutermostClosed (p : ReaderPlace) : Type 0 where
  pub inside : List Open
  pub unit : Open
  pub parent : Open
  pub around : List Open
  pub units : p.units ≡ inside ++ (unit ∷ parent ∷ around)
  pub ends : unit.end ≡ p.position
  pub stays : parent.end ≡ p.position → ⊥
  pub inside_ranks : List ℕ
  pub rank : ℕ
  pub around_ranks : List ℕ
  pub ranks : p.ranks ≡ inside_ranks ++ (rank ∷ around_ranks)
  pub each : length inside_ranks ≡ length inside

-- What SKIP and GET_STREAM leave: the ranks, and what PREVIOUS hands out.
pub record Kept (l : Layout) (s : List ℕ) (p : ReaderPlace) (r : Reply) : Type 0 where
  pub ranks : r.place.ranks ≡ p.ranks
  pub last_rank : r.place.last_rank ≡ p.last_rank
  pub again : (previous_of l s r.place).number ≡ 0 → (previous_of l s r.place).handed ≡ (previous_of l s p).handed
