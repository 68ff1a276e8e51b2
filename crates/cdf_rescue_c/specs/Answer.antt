-- What a rescue answers beside its number, as the numbers that cross to C.
use Rattle.std.specs.Prelude.{ℕ, List, [], ◌∷◌, length}
use Rattle.cdf_rescue_spec.specs.Salvage.{Rescued}
use Rattle.cdf_rescue_spec.specs.declared.Run.{Run}
use Rattle.cdf_unit_table.specs.Entries.{padded}

-- The first byte of each run and the byte after its last, one run after the other.
abbrev pub pairs : List Run → List ℕ
pairs [] = []
pairs (r ∷ rs) = r.from ∷ r.to ∷ pairs rs

-- The 130 numbers of an answer: how many bytes the group has; how many runs were dropped, and these in 128 entries. Entries that are not
-- used are 0.
unfoldable pub answer_of : Rescued → List ℕ
answer_of r = length r.group ∷ length r.runs ∷ padded 128 (pairs r.runs)
