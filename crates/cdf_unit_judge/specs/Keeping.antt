-- That what a judge finds lies in the bytes judged.
use Rattle.std.specs.Prelude.{ℕ, ◌≤◌, List, length}
use Rattle.cdf_unit_judge.specs.Judge.{Judged, Fault, Found}

-- A fault's offset, and a unit's own data and end, of n bytes.
abbrev pub Lies : ℕ → Judged → Type 0
Lies n (Fault m k) = k ≤ n
Lies n (Found id action own len state) = (own ≤ len) × (len ≤ n)

-- What a judge finds keeps in its bytes.
abbrev pub Keeps : (ℕ → List ℕ → Judged) → Type 0
Keeps judge = (state : ℕ) (t : List ℕ) → Lies (length t) (judge state t)
