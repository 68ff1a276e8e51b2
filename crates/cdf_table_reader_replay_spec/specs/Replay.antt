-- A run of the table reader's calls by their codes: to the first reader's replay a code that is none of the three is an unknown one, which ends
-- the run.
use Rattle.std.specs.Prelude.{ℕ, Bool, cond, ◌&&◌, List, map, leb}
use Rattle.cdf_reader_replay_spec.specs.Replay.{Replayed}

-- The codes of the three calls.
abbrev pub shared_code : ℕ → Bool
shared_code code = leb 1 code && leb code 3

-- A code as the first reader's replay is given it; 0 is none of a call.
abbrev pub heard : ℕ → ℕ
heard code = cond (shared_code code) code 0

-- What a replay leaves: as the first reader's of these codes.
abbrev pub TableReplayed : List ℕ → List ℕ → List ℕ → ℕ → List ℕ → List ℕ → Type 0
TableReplayed s codes before number after answer = Replayed s (map heard codes) before number after answer
