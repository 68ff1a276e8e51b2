-- A run of calls by their codes, and the log that it leaves.
use Rattle.std.specs.Prelude.{ℕ, ◌*◌, ◌/◌, ◌≡◌, Bool, cond, ◌&&◌, List, [], ◌∷◌, ◌++◌, eqb, leb, ltb, length, drop}
use Rattle.cdf_unit_prefix.specs.Layout.{layout_for}
use Rattle.cdf_reader_spec.specs.Calls.{empty_place}
use Rattle.cdf_reader_spec.specs.declared.Call.{Call}
use Rattle.cdf_reader_spec.specs.declared.Call.TheVariants.{Start, Next, Skip, GetStream, Previous}
use Rattle.cdf_reader_plain.specs.Calls.{Told}
use Rattle.cdf_reader_plain.specs.Runs.{reader_run}

-- The codes of the five calls.
abbrev pub known_code : ℕ → Bool
known_code code = leb 1 code && leb code 5

abbrev pub call_by : ℕ → Call
call_by code =
    cond (eqb code 1) Start (cond (eqb code 2) Next (cond (eqb code 3) Skip (cond (eqb code 4) GetStream Previous)))

-- The calls up to the first code that is none of them.
unfoldable pub calls_of : List ℕ → List Call
calls_of [] = []
calls_of (code ∷ codes) = cond (known_code code) (call_by code ∷ calls_of codes) []

-- What the reader tells of each call, from the empty place.
abbrev pub ran_of : List ℕ → List ℕ → List Told
ran_of s codes = reader_run (layout_for s) s empty_place (calls_of codes)

-- An entry of the log: the number, the offset, the part's start and length, the unit (id, action, start, own end, end), and its depth
-- and rank.
abbrev pub entry_of : Told → List ℕ
entry_of t =
    t.number
    ∷ t.offset
    ∷ t.part.start
    ∷ t.part.size
    ∷ t.handed.unit.id
    ∷ t.handed.unit.action
    ∷ t.handed.unit.start
    ∷ t.handed.unit.own
    ∷ t.handed.unit.end
    ∷ t.handed.depth
    ∷ t.handed.rank
    ∷ []

unfoldable pub entries : List Told → List ℕ
entries [] = []
entries (t ∷ ts) = entry_of t ++ entries ts

-- The log with these entries at its front; the rest stays.
abbrev pub log_after : List Told → List ℕ → List ℕ
log_after ts log = entries ts ++ drop (11 * length ts) log

-- The log has no room for an entry of each call.
abbrev pub too_short : List ℕ → List ℕ → Bool
too_short codes log = ltb (length log / 11) (length codes)

-- What a replay leaves: 12 and nothing written where the log is too short; else 0, the log with an entry for each call of the run,
-- and how many.
pub record Replayed (s codes before : List ℕ) (number : ℕ) (after answer : List ℕ) : Type 0 where
  pub told : number ≡ cond (too_short codes before) 12 0
  pub logged : after ≡ cond (too_short codes before) before (log_after (ran_of s codes) before)
  pub counted : answer ≡ cond (too_short codes before) 0 (length (ran_of s codes)) ∷ []
