-- Demand 3 of running code. The term of this record stands in proofs/Proved.
use Rattle.std.specs.Prelude.{ℕ, suc, ◌*◌, ◌≤◌, ◌≡◌, false, List, [], ◌∷◌, ◌++◌, length, replicate}
use Rattle.cdf_unit_prefix.specs.Layout.{prefix_of, layout_for}
use Rattle.cdf_unit_list.specs.Units.{listing}
use Rattle.cdf_unit_list.specs.Ranks.{ranked_units}
use Rattle.cdf_unit_list.specs.Check.{check_of}
use Rattle.cdf_unit_list.specs.declared.Ranked.{Ranked}
use Rattle.cdf_grammar.specs.Trees.{Forest}
use Rattle.cdf_grammar.specs.Encoding.{Stream}
use Rattle.cdf_reader_plain.specs.Calls.{Told}
use Rattle.cdf_reader_plain.specs.Runs.{plain_run}
use Rattle.cdf_reader_plain.specs.Nexts.{handing_all, ever_after, zeros}
use Rattle.cdf_reader_replay_spec.specs.Replay.{calls_of, log_after, too_short, Replayed}

-- A replay of these codes writes these answers: if the log has room, it returns 0, leaves them at the log's front, and tells how many.
abbrev pub Writes : List ℕ → List ℕ → List Told → Type 0
Writes s codes answers =
    (before : List ℕ) → too_short codes before ≡ false → (number : ℕ) (after answer : List ℕ) →
    Replayed s codes before number after answer →
    (number ≡ 0) × (after ≡ log_after answers before) × (answer ≡ length answers ∷ [])

-- Two answers of eleven numbers, no two the same.
abbrev pub one : Told
one = record {
  number = 41;
  offset = 42;
  part = record { start = 43; size = 44 };
  handed = record { unit = record { id = 45; action = 46; start = 47; own = 48; end = 49 }; depth = 50; rank = 51 };
}

abbrev pub other : Told
other = record {
  number = 61;
  offset = 62;
  part = record { start = 63; size = 64 };
  handed = record { unit = record { id = 65; action = 66; start = 67; own = 68; end = 69 }; depth = 70; rank = 71 };
}

pub record Claims : Type 0 where
  -- Each number of an entry stands where the header says, the entries one behind the other, and the log behind them stays.
  pub entry_written : log_after (one ∷ other ∷ []) (replicate 22 0 ++ 91 ∷ 92 ∷ [])
      ≡ 41 ∷ 42 ∷ 43 ∷ 44 ∷ 45 ∷ 46 ∷ 47 ∷ 48 ∷ 49 ∷ 50 ∷ 51
      ∷ 61 ∷ 62 ∷ 63 ∷ 64 ∷ 65 ∷ 66 ∷ 67 ∷ 68 ∷ 69 ∷ 70 ∷ 71 ∷ 91 ∷ 92 ∷ []
  -- First half. Of a stream of the published grammar, begun with a start: the plain reader's answers over the unit list.
  pub replays : (s : List ℕ) (t : Forest) → Stream (layout_for s) s t →
      (first : Ranked) × (rest : List Ranked) × (ranked_units (layout_for s) s ≡ first ∷ rest)
      × ((codes : List ℕ) → Writes s (1 ∷ codes) (plain_run first rest (calls_of codes)))
  -- Second half. Of any bytes with a listed unit, a start and k NEXTs: the unit list, and after it for ever the end where the check
  -- accepts, else the check's number and offset.
  pub replays_nexts : (s : List ℕ) → ((listing (layout_for s) s).units ≡ [] → ⊥) → (k : ℕ) →
      Writes s (1 ∷ replicate k 2) (handing_all (suc k) (ranked_units (layout_for s) s) (ever_after (check_of (layout_for s) s)))
  -- Of any n bytes: at most as many of these answers are 0 as prefixes have room in them, n / 6.
  pub replays_few : (s : List ℕ) (k : ℕ) → (answers : List Told) × Writes s (1 ∷ replicate k 2) answers × (zeros answers * prefix_of (layout_for s) ≤ length s)
