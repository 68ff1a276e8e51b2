-- What is claimed of the call from C. The term of this record stands in proofs/Proved.
use Rattle.std.specs.Prelude.{ℕ, ◌*◌, ◌/◌, ◌≡◌, List, [], ◌∷◌, length, take, drop, get_or}
use Rattle.cdf_unit_prefix.specs.Layout.{layout_for}
use Rattle.cdf_unit_list.specs.Ranks.{ranked_units}
use Rattle.cdf_unit_list.specs.declared.Ranked.{Ranked}
use Rattle.cdf_reader_spec.specs.declared.Call.TheVariants.{Start}
use Rattle.cdf_reader_numbers.specs.Numbers.{Called}
use Rattle.cdf_reader_units.specs.Filling.{units_numbers}
use Rattle.cdf_reader_units_c.specs.Batched.{Batched}

-- Two units of seven numbers, no two the same.
abbrev pub one : Ranked
one = record { unit = record { id = 51; action = 52; start = 53; own = 54; end = 55 }; depth = 56; rank = 57 }

abbrev pub other : Ranked
other = record { unit = record { id = 61; action = 62; start = 63; own = 64; end = 65 }; depth = 66; rank = 67 }

-- These units are counted, and stand at the list's front.
abbrev pub Told : List Ranked → List ℕ → List ℕ → Type 0
Told us listed answer = (get_or answer 1 0 ≡ length us) × (take (7 * length us) listed ≡ units_numbers us)

pub record Claims : Type 0 where
  -- Each number of a unit stands where the header says, and the units one behind the other.
  pub unit_written : units_numbers (one ∷ other ∷ [])
      ≡ 51 ∷ 52 ∷ 53 ∷ 54 ∷ 55 ∷ 56 ∷ 57 ∷ 61 ∷ 62 ∷ 63 ∷ 64 ∷ 65 ∷ 66 ∷ 67 ∷ []
  -- Any number but 0 leaves the place and the list, and counts no unit.
  pub refused : (s before list : List ℕ) (number : ℕ) (after listed answer : List ℕ) → Batched s before list number after listed answer →
      (number ≡ 0 → ⊥) → (after ≡ before) × (listed ≡ list) × (get_or answer 1 0 ≡ 0)
  -- Behind the units that are counted the list stays.
  pub behind : (s before list : List ℕ) (number : ℕ) (after listed answer : List ℕ) → Batched s before list number after listed answer →
      (drop (7 * get_or answer 1 0) listed ≡ drop (7 * get_or answer 1 0) list) × (length listed ≡ length list)
  -- After a start, of any bytes: the units behind the root, one for every seven numbers of the list, as long as there are some;
  pub reads : (s place first list : List ℕ) (number : ℕ) (after listed answer : List ℕ) (root : Ranked) (units : List Ranked) →
      ranked_units (layout_for s) s ≡ root ∷ units → (given : List ℕ) → Called Start s given 0 place first →
      Batched s place list number after listed answer → Told (take (length list / 7) units) listed answer
  -- and the next call, on the place that this one left, goes on behind them.
  pub reads_on : (s place first list : List ℕ) (number : ℕ) (after listed answer : List ℕ) (root : Ranked) (units : List Ranked) →
      ranked_units (layout_for s) s ≡ root ∷ units → (given : List ℕ) → Called Start s given 0 place first →
      Batched s place list number after listed answer → (list2 : List ℕ) (number2 : ℕ) (after2 listed2 answer2 : List ℕ) →
      Batched s after list2 number2 after2 listed2 answer2 → Told (take (length list2 / 7) (drop (length list / 7) units)) listed2 answer2
