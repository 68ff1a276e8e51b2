-- How deep units can lie in one another. A tool of the proofs and of one private contract; no claim cites this file.
use Rattle.std.specs.Prelude.{ℕ, List, [], ◌∷◌, get_or}
use Rattle.cdf_unit_table.specs.States.{unit_of}

-- A height for each id, from 0, which is no unit's, to 14. The units that one unit admits are of one height, lower than its
-- own, and the highest is 4.
abbrev pub heights : List ℕ
heights = 0 ∷ 4 ∷ 3 ∷ 0 ∷ 3 ∷ 2 ∷ 0 ∷ 0 ∷ 0 ∷ 2 ∷ 2 ∷ 1 ∷ 1 ∷ 3 ∷ 0 ∷ []

unfoldable pub height : ℕ → ℕ
height id = get_or heights id 0

-- of the unit that a state is of
unfoldable pub height_in : ℕ → ℕ
unfolding height unit_of
height_in state = height (unit_of state)
