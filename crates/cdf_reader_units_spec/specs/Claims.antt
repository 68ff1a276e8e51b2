-- What is claimed of many units in a call. The term of this record stands in proofs/Proved.
use Rattle.std.specs.Prelude.{ℕ, zero, suc, ◌+◌, ◌≤◌, ◌<◌, ◌≡◌, true, false, List, [], ◌∷◌, ◌++◌, length, take, set}
use Rattle.cdf_unit_prefix.specs.Layout.{Layout}
use Rattle.cdf_unit_list.specs.Samples.{k1, k2, k4, k12}
use Rattle.cdf_unit_list.specs.Ranks.{ranked_units}
use Rattle.cdf_unit_list.specs.Check.{check_of}
use Rattle.cdf_reader_spec.specs.Place.{ReaderPlace, is_empty, fits}
use Rattle.cdf_reader_spec.specs.Calls.{empty_place, first_of, next_of}
use Rattle.cdf_reader_runs.specs.Runs.{afterwards}
use Rattle.cdf_reader_units_spec.specs.Batch.{no_units, batch_of}
use Rattle.cdf_reader_units_spec.specs.Samples.{first, told, two_of, template, key, field}

-- Two batches of samples behind a start, computed: number, offset and how many, and the units.
pub record Examples : Type 0 where
  -- The room ends behind the second unit, and the third is not lost.
  pub example_room : two_of k2 2 2 ≡ ((0 ∷ 0 ∷ 2 ∷ []) ∷ template ∷ key ∷ []) ∷ ((0 ∷ 0 ∷ 1 ∷ []) ∷ field ∷ []) ∷ []
  -- A fault, K10's: after the units before it, with its offset.
  pub example_fault : two_of (set k2 33 0) 3 1 ≡ ((0 ∷ 0 ∷ 2 ∷ []) ∷ template ∷ key ∷ []) ∷ ((8 ∷ 29 ∷ 0 ∷ []) ∷ []) ∷ []
  -- The end, of K12.
  pub example_end : two_of k12 1 1 ≡ ((0 ∷ 0 ∷ 1 ∷ []) ∷ (2 ∷ 0 ∷ 6 ∷ 18 ∷ 18 ∷ 2 ∷ 0 ∷ []) ∷ []) ∷ ((1 ∷ 0 ∷ 0 ∷ []) ∷ []) ∷ []
  -- With no room no fault is told: K4, whose root lacks a line.
  pub example_none : two_of k4 0 1 ≡ ((0 ∷ 0 ∷ 0 ∷ []) ∷ []) ∷ ((10 ∷ 0 ∷ 0 ∷ []) ∷ []) ∷ []
  -- The place of K2's start does not fit K1; the empty one fits nothing, but is asked first.
  pub example_unfit : told (batch_of first k1 (first_of first k2).place 0) ≡ (2 ∷ 0 ∷ 0 ∷ []) ∷ []
  pub example_empty : told (batch_of first k1 empty_place 0) ≡ (11 ∷ 0 ∷ 0 ∷ []) ∷ []

pub record Claims : Type 0 where
  -- What a batch is, by NEXT alone: no other definition keeps these five. 11 for the empty place, and then 2 for one that does not fit,
  -- whatever the room;
  pub empty : (l : Layout) (s : List ℕ) (p : ReaderPlace) (room : ℕ) → is_empty p ≡ true → batch_of l s p room ≡ no_units 11 0 p
  pub unfit : (l : Layout) (s : List ℕ) (p : ReaderPlace) (room : ℕ) → is_empty p ≡ false → fits l (length s) p ≡ false →
      batch_of l s p room ≡ no_units 2 0 p
  -- with no room 0, and nothing;
  pub no_room : (l : Layout) (s : List ℕ) (p : ReaderPlace) → fits l (length s) p ≡ true → batch_of l s p zero ≡ no_units 0 0 p
  -- with room where NEXT hands out no unit, its number and offset, and nothing;
  pub stops : (l : Layout) (s : List ℕ) (p : ReaderPlace) (room : ℕ) → ((next_of l s p).number ≡ 0 → ⊥) →
      batch_of l s p (suc room) ≡ no_units (next_of l s p).number (next_of l s p).offset p
  -- and where it hands out one: 0, that unit, and those of a batch with the rest of the room from the place that it returns.
  pub goes_on : (l : Layout) (s : List ℕ) (p : ReaderPlace) (room : ℕ) → (next_of l s p).number ≡ 0 →
      let rest = batch_of l s (next_of l s p).place room in
      batch_of l s p (suc room)
      ≡ record { number = 0; offset = 0; units = (next_of l s p).handed ∷ rest.units; place = rest.place }
  -- Any number but 0 leaves the place, and hands out nothing.
  pub refused : (l : Layout) (s : List ℕ) (p : ReaderPlace) (room : ℕ) → ((batch_of l s p room).number ≡ 0 → ⊥) →
      ((batch_of l s p room).units ≡ []) × ((batch_of l s p room).place ≡ p)
  -- A unit needs room.
  pub within : (l : Layout) (s : List ℕ) (p : ReaderPlace) (room : ℕ) → length (batch_of l s p room).units ≤ room
  -- The place after a batch fits.
  pub fitting : (l : Layout) (s : List ℕ) (p : ReaderPlace) (room : ℕ) → (batch_of l s p room).number ≡ 0 →
      fits l (length s) (batch_of l s p room).place ≡ true
  -- Where the room was used up, the next batch goes on: both are one with the room of both.
  pub joined : (l : Layout) (s : List ℕ) (p : ReaderPlace) (a b : ℕ) → length (batch_of l s p a).units ≡ a →
      let next = batch_of l s (batch_of l s p a).place b in
      ((batch_of l s p (a + b)).units ≡ (batch_of l s p a).units ++ next.units) × ((batch_of l s p (a + b)).place ≡ next.place)
  -- Where it was not, what stopped the units is told by the next batch with room: the number of a NEXT that hands out none, and its offset.
  pub told_next : (l : Layout) (s : List ℕ) (p : ReaderPlace) (room more : ℕ) → length (batch_of l s p room).units < room →
      let q = (batch_of l s p room).place in
      (batch_of l s q (suc more) ≡ no_units (next_of l s q).number (next_of l s q).offset q) × ((next_of l s q).number ≡ 0 → ⊥)
  -- From a start on, of any bytes: the unit list with depths and ranks, as far as the room goes,
  pub reads : (l : Layout) (s : List ℕ) (room : ℕ) → (first_of l s).number ≡ 0 →
      (first_of l s).handed ∷ (batch_of l s (first_of l s).place room).units ≡ take (suc room) (ranked_units l s)
  -- and behind the last unit the end where the check accepts, else the check's number and offset.
  pub ends : (l : Layout) (s : List ℕ) (room more : ℕ) → (first_of l s).number ≡ 0 → length (ranked_units l s) ≤ suc room →
      let last = batch_of l s (batch_of l s (first_of l s).place room).place (suc more) in
      (last.number ≡ (afterwards (check_of l s)).number) × (last.offset ≡ (afterwards (check_of l s)).offset)
