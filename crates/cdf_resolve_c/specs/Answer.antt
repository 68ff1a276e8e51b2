-- What resolving answers beside its number, as the numbers that cross to C.
use Rattle.std.specs.Prelude.{ℕ, List, [], ◌∷◌}
use Rattle.cdf_resolve_spec.specs.Resolve.{Resolved}

-- The offset, and how many ranks were written.
abbrev pub answer_of : Resolved → List ℕ
answer_of r = r.offset ∷ r.count ∷ []
