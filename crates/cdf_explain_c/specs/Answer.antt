-- Why a stream is refused, as the numbers that cross to C.
use Rattle.std.specs.Prelude.{ℕ, List, [], ◌∷◌, ◌++◌, length}
use Rattle.cdf_unit_list.specs.declared.Unit.{Unit}
use Rattle.cdf_explain_spec.specs.Why.{Why}
use Rattle.cdf_unit_table.specs.Entries.{padded}

-- Id and start of each unit, one unit after the other.
abbrev pub pairs : List Unit → List ℕ
pairs [] = []
pairs (u ∷ us) = u.id ∷ u.start ∷ pairs us

-- The 25 numbers of an answer: the offset; how many units are open, and id and start of each, the root first, in eight entries; how
-- many ids the innermost admits, and these, rising, in fourteen. Entries that are not used are 0.
unfoldable pub answer_of : Why → List ℕ
answer_of w =
    w.offset ∷ length w.units ∷ (padded 8 (pairs w.units) ++ (length w.ids ∷ padded 14 w.ids))
