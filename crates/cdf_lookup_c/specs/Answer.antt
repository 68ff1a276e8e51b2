-- What a lookup answers beside its number, as the numbers that cross to C.
use Rattle.std.specs.Prelude.{ℕ, List, [], ◌∷◌}
use Rattle.cdf_lookup_spec.specs.Find.{Lookup}

-- The offset; in which stream the value stands, 0 if in none; where it starts there, and how many bytes it has.
abbrev pub answer_of : Lookup → List ℕ
answer_of a = a.offset ∷ a.which ∷ a.start ∷ a.size ∷ []
