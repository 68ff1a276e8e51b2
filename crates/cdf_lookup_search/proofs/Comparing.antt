-- Bytes compared by the library.
use Rattle.std.specs.Prelude.{ℕ, ◌≡◌, List, [], ◌∷◌, ◌&&◌, eqb}
use Rattle.std.proofs.Common.{refl, ap}
use Rattle.std.specs.Cmp.Lexicographic.{pointwise}
use Rattle.cdf_lookup_spec.specs.Find.{same_bytes}

pub compared : (a b : List ℕ) → pointwise eqb a b ≡ same_bytes a b
unfolding same_bytes
compared [] [] = refl
compared [] (b ∷ bs) = refl
compared (a ∷ more) [] = refl
compared (a ∷ more) (b ∷ bs) = ap (λ x. eqb a b && x) (compared more bs)
