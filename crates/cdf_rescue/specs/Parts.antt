-- What the parts of a rescue tell, for private contracts: no claim and no contract that is open to callers cites it.
use Rattle.std.specs.Prelude.{ℕ, ◌+◌, ◌-◌, ◌≤◌, ◌<◌, ◌≡◌, Bool, false, not, List, ◌++◌, ◌⊎◌, eqb, length, take, drop, Option, Some, None, Result, Ok}
use Rattle.std.specs.Prelude.{Err}
use Rattle.cdf_refusal.specs.declared.Refusal.{Refusal}
use Rattle.cdf_refusal.specs.declared.Refusal.TheVariants.{TooManyRuns}
use Rattle.cdf_unit_table.specs.Ids.{er_group}
use Rattle.cdf_unit_table.specs.States.{admit, nothing}
use Rattle.cdf_unit_prefix.specs.Layout.{Layout, prefix_of}
use Rattle.cdf_unit_prefix.specs.Rules.{Head, Stop, Prefix}
use Rattle.cdf_rescue_spec.specs.Salvage.{whole_at, pieces_from, pieces, kept_bytes, runs_of, most_runs}
use Rattle.cdf_rescue_spec.specs.declared.Run.{Run}
use Rattle.cdf_rescue.specs.Numbers.{entries}
use Rattle.cdf_rescue.specs.declared.Found.{Found}

-- A length of 0 stands for none.
abbrev pub IsWhole : ℕ → Option ℕ → Type 0
IsWhole n None = n ≡ 0
IsWhole n (Some k) = (k ≡ n) × (k ≡ 0 → ⊥)

-- A prefix keeps the rules 3 to 7 in an E/R group.
abbrev pub is_headed : Head → Bool
is_headed (Stop n) = false
is_headed (Prefix id action len) = not (eqb (admit (nothing er_group) id) 0)

-- No unit stands whole from a position up to another, which is the end, or one does there.
pub record Gap (l : Layout) (s : List ℕ) (at to : ℕ) : Type 0 where
  pub low : at ≤ to
  pub high : to ≤ length s
  pub none : (i : ℕ) → at ≤ i → i < to → whole_at l (drop i s) ≡ 0
  pub stops : (to ≡ length s) ⊎ (whole_at l (drop to s) ≡ 0 → ⊥)

-- What is kept, and what is dropped, from a position on.
abbrev pub kept_from : Layout → List ℕ → ℕ → List ℕ
kept_from l s at = kept_bytes s (pieces_from (length s) l s at)

abbrev pub runs_from : Layout → List ℕ → ℕ → List Run
runs_from l s at = runs_of (pieces_from (length s) l s at)

-- Whole units from a position up to another, which is the end, or none stands there.
pub record Span (l : Layout) (s : List ℕ) (at to : ℕ) : Type 0 where
  pub low : at ≤ to
  pub high : to ≤ length s
  pub bytes : kept_from l s at ≡ take (to - at) (drop at s) ++ kept_from l s to
  pub runs : runs_from l s at ≡ runs_from l s to
  pub stops : (to ≡ length s) ⊎ (whole_at l (drop to s) ≡ 0)

-- All the runs, and how many bytes are kept.
pub record All (l : Layout) (s : List ℕ) (r : Found) : Type 0 where
  pub kept : r.kept ≡ length (kept_bytes s (pieces l s))
  pub count : r.count ≡ length (runs_of (pieces l s))
  pub runs : r.runs ≡ entries (runs_of (pieces l s))
  pub few : r.count ≤ most_runs
  pub within : r.kept ≤ length s

-- More runs than there are entries, and something to keep.
pub record Many (l : Layout) (s : List ℕ) (e : Refusal) : Type 0 where
  pub is : e ≡ TooManyRuns
  pub more : most_runs < length (runs_of (pieces l s))
  pub some : length (kept_bytes s (pieces l s)) ≡ 0 → ⊥

-- What a scan found.
abbrev pub Scanned : Layout → List ℕ → Result Found Refusal → Type 0
Scanned l s (Ok r) = All l s r
Scanned l s (Err e) = Many l s e

-- All that is kept.
abbrev pub kept_of : Layout → List ℕ → List ℕ
kept_of l s = kept_bytes s (pieces l s)

-- These are all the runs, and there is room for the group in a buffer of so many bytes.
pub record Kept (l : Layout) (s : List ℕ) (runs : List Run) (room : ℕ) : Type 0 where
  pub all : runs ≡ runs_of (pieces l s)
  pub prefix : prefix_of l ≤ length s
  pub fits : prefix_of l + length (kept_of l s) ≤ room
