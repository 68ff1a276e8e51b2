-- What a replay by the table leaves. The term of this record stands in proofs/Proved.
use Rattle.std.specs.Prelude.{ℕ, ◌≤◌, ◌≡◌, true, false, List, [], ◌∷◌, ◌++◌, ◌⊎◌, length}
use Rattle.cdf_reader_replay_spec.specs.Replay.{ran_of, log_after, too_short, Replayed}
use Rattle.cdf_table_reader_replay_spec.specs.Replay.{TableReplayed}

-- Each is a start, NEXT or SKIP.
abbrev pub Calls : List ℕ → Type 0
Calls [] = record {}
Calls (code ∷ codes) = (1 ≤ code) × (code ≤ 3) × Calls codes

pub record Claims : Type 0 where
  -- Of these calls it leaves what the first reader's replay of them leaves.
  pub alike : (s codes : List ℕ) → Calls codes → (before : List ℕ) (number : ℕ) (after answer : List ℕ) →
      TableReplayed s codes before number after answer → Replayed s codes before number after answer
  -- Any other code, those of GET_STREAM and PREVIOUS too, ends it: the log has the calls before it, whatever stands behind.
  pub ended : (s codes : List ℕ) → Calls codes → (other : ℕ) → (other ≡ 0) ⊎ (4 ≤ other) → (more before : List ℕ) →
      too_short (codes ++ other ∷ more) before ≡ false → (number : ℕ) (after answer : List ℕ) →
      TableReplayed s (codes ++ other ∷ more) before number after answer →
      (number ≡ 0) × (after ≡ log_after (ran_of s codes) before) × (answer ≡ length (ran_of s codes) ∷ [])
  -- 12 where the log has no room for an entry of each code, behind such a one too; then nothing is written.
  pub short : (s codes before : List ℕ) → too_short codes before ≡ true → (number : ℕ) (after answer : List ℕ) →
      TableReplayed s codes before number after answer → (number ≡ 12) × (after ≡ before) × (answer ≡ 0 ∷ [])
