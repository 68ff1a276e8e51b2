-- What is claimed of the table and of the reader that it drives. The term of this record stands in proofs/Proved.
use Rattle.std.specs.Prelude.{ℕ, ◌+◌, ◌*◌, ◌-◌, ◌≤◌, ◌<◌, ◌≡◌, Bool, true, false, cond, List, ◌∷◌, ◌⊎◌, length, take, drop, get_or}
use Rattle.cdf_unit_table.specs.States.{unit_of, nothing, admit, root_kind}
use Rattle.cdf_unit_prefix.specs.Layout.{Layout}
use Rattle.cdf_unit_prefix.specs.Rules.{head_of, Prefix}
use Rattle.cdf_unit_list.specs.Samples.{k2, k4}
use Rattle.cdf_unit_list.specs.Stack.{opened, with_state}
use Rattle.cdf_unit_list.specs.declared.Open.{Open}
use Rattle.cdf_reader_spec.specs.Place.{ReaderPlace}
use Rattle.cdf_reader_spec.specs.Closing.{unclosed}
use Rattle.cdf_reader_spec.specs.Calls.{Reply}
use Rattle.cdf_table_reader_spec.specs.Table.{looked, entries}
use Rattle.cdf_table_reader_spec.specs.Calls.{table_first, table_next}
use Rattle.cdf_table_reader_spec.specs.Runs.{Shared, table_run, shared_run}
use Rattle.cdf_table_reader_spec.specs.Samples.{tells, k2_calls, k2_due, k8, k8_calls, k8_due, k4_calls, k4_due}

-- The unit that was handed out: the row of the innermost unit that closing leaves admits it, and that one is then in the state that stands there.
abbrev pub Admitted : List ℕ → ReaderPlace → Reply → Type 0
Admitted table p r =
    (o : Open) × (os : List Open) × (unclosed p.units p.position ≡ o ∷ os)
    × (looked table o.state r.handed.unit.id ≡ 0 → ⊥)
    × (r.place.units ≡ opened r.handed.unit (with_state o (looked table o.state r.handed.unit.id) ∷ os))

-- The unit at the front of s, a root or not: its prefix is in order, and the row of this state does not admit it.
abbrev pub NoEntry : List ℕ → Layout → Bool → ℕ → List ℕ → Type 0
NoEntry table l root state s =
    (id : ℕ) × (action : ℕ) × (len : ℕ) × (head_of l root s ≡ Prefix id action len) × (looked table state id ≡ 0)

-- So it is of the unit at the position, in what the innermost unit that closing leaves has left.
abbrev pub Unadmitted : List ℕ → Layout → List ℕ → ReaderPlace → Type 0
Unadmitted table l s p =
    (o : Open) × (os : List Open) × (unclosed p.units p.position ≡ o ∷ os)
    × NoEntry table l false o.state (take (o.end - p.position) (drop p.position s))

pub record Claims : Type 0 where
  -- 31 rows of 14 entries, that of a state and an id at state * 14 + (id - 1), in any list as the table; for another state or id there is none.
  pub placed : (length entries ≡ 434)
      × ((table : List ℕ) (state id : ℕ) →
      (state ≤ 30 → 1 ≤ id → id ≤ 14 → looked table state id ≡ get_or table (state * 14 + (id - 1)) 0)
      × ((30 < state) ⊎ ((id < 1) ⊎ (14 < id)) → looked table state id ≡ 0))
  -- At every state and every id, known or not, the table says what the grammar's rows say; before the root, what a root may be, and its first state.
  pub agrees : (id : ℕ) →
      ((state : ℕ) → (state ≡ 0 → ⊥) → looked entries state id ≡ admit state id) × (looked entries 0 id ≡ cond (root_kind id) (nothing id) 0)
  -- An entry is 0, or a state of the unit in whose row it stands; before the root, the first state of its id.
  pub stays : (id : ℕ) →
      ((state : ℕ) → (state ≡ 0 → ⊥) → (looked entries state id ≡ 0) ⊎ (unit_of (looked entries state id) ≡ unit_of state))
      × ((looked entries 0 id ≡ 0) ⊎ (looked entries 0 id ≡ nothing id))
  -- By any list as the table, that list decides what may come next: what NEXT hands out it admits, and 7 is told where it does not. So it is of a
  -- start, by row 0.
  pub driven : (table : List ℕ) (l : Layout) (s : List ℕ) →
      ((p : ReaderPlace) →
      ((table_next table l s p).number ≡ 0 → Admitted table p (table_next table l s p))
      × ((table_next table l s p).number ≡ 7 → Unadmitted table l s p))
      × ((table_first table l s).number ≡ 0 → looked table 0 (table_first table l s).handed.unit.id ≡ 0 → ⊥)
      × ((table_first table l s).number ≡ 7 → NoEntry table l true 0 s)
  -- In every layout, for any bytes and any list of starts, NEXTs and SKIPs, each reader on the place that its own last call returned: both runs are
  -- the same, numbers, offsets, units with depth and rank, and places. From any place on, one made by hand too; a start needs none.
  pub same : (l : Layout) (s : List ℕ) (p : ReaderPlace) (calls : List Shared) → table_run entries l s p calls ≡ shared_run l s p calls
  -- K2 with a skip, K8 (7 at 29) and K4 (10 at 0), each answer written out.
  pub example : (tells k2 k2_calls ≡ k2_due) × (tells k8 k8_calls ≡ k8_due) × (tells k4 k4_calls ≡ k4_due)
