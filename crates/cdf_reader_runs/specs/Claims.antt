-- What is claimed of the reader's calls and of runs of them. The term of this record stands in proofs/Proved.
use Rattle.std.specs.Prelude.{ℕ, ◌*◌, ◌≤◌, ◌≡◌, true, List, [], length}
use Rattle.cdf_unit_prefix.specs.Layout.{Layout, prefix_of}
use Rattle.cdf_unit_list.specs.Units.{listing}
use Rattle.cdf_unit_list.specs.Ranks.{ranked_units}
use Rattle.cdf_unit_list.specs.Check.{check_of}
use Rattle.cdf_reader_spec.specs.Place.{ReaderPlace, fits}
use Rattle.cdf_reader_spec.specs.Calls.{first_of, next_of}
use Rattle.cdf_reader_runs.specs.Runs.{reading, outcome, afterwards, due, handed_out}

pub record Claims : Type 0 where
  -- A start and nexts hand out the unit list, of any bytes whose list is not empty: the k-th answer is the k-th unit, with its depth
  -- and rank, and every later one the end where the check accepts, else the check's number and offset.
  pub reads : (l : Layout) (s : List ℕ) → ((listing l s).units ≡ [] → ⊥) → (k : ℕ) →
      outcome (reading l s k) ≡ due (afterwards (check_of l s)) (ranked_units l s) k
  -- A start alone, on any bytes: where no unit is listed it has the check's number and offset.
  pub begins : (l : Layout) (s : List ℕ) → outcome (first_of l s) ≡ due (afterwards (check_of l s)) (ranked_units l s) 0
  -- They hand out at most n / 6 units of any n bytes, however often NEXT is called; in another layout, n by its prefix.
  pub few : (l : Layout) (s : List ℕ) (k : ℕ) → handed_out l s k * prefix_of l ≤ length s
  -- A place that a start returns with 0 fits the bytes,
  pub first_fits : (l : Layout) (s : List ℕ) → (first_of l s).number ≡ 0 → fits l (length s) (first_of l s).place ≡ true
  -- and one that NEXT returns with 0, whatever place it was given.
  pub next_fits : (l : Layout) (s : List ℕ) (p : ReaderPlace) → (next_of l s p).number ≡ 0 →
      fits l (length s) (next_of l s p).place ≡ true
  -- A place that fits has at most four open units.
  pub four : (l : Layout) (n : ℕ) (p : ReaderPlace) → fits l n p ≡ true → length p.units ≤ 4
