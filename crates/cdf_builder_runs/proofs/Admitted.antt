-- Requests that are admitted one after the other, whatever the room.
use Rattle.std.proofs.Common.{◌≡◌, refl, List, [], ◌∷◌, ◌++◌}
use Rattle.cdf_unit_prefix.specs.Layout.{Layout}
use Rattle.cdf_builder_spec.specs.Place.{BuilderPlace}
use Rattle.cdf_builder_spec.specs.Requests.{Request, refused, grown}

-- The requests are admitted one after the other from a place on, whatever the room.
abbrev pub Admitted : Layout → BuilderPlace → List Request → Type 0
Admitted l p [] = record {}
Admitted l p (r ∷ rs) = (refused l p.units r 0 ≡ 0) × Admitted l (grown l p r) rs

unfoldable pub place_after : Layout → BuilderPlace → List Request → BuilderPlace
place_after l p [] = p
place_after l p (r ∷ rs) = place_after l (grown l p r) rs

module _ (l : Layout) where
  pub placeAfter_append : (p : BuilderPlace) (rs more : List Request) →
      place_after l p (rs ++ more) ≡ place_after l (place_after l p rs) more
  unfolding place_after
  placeAfter_append p [] more = refl
  placeAfter_append p (r ∷ rs) more = placeAfter_append (grown l p r) rs more

  pub admitted_append : (p : BuilderPlace) (rs more : List Request) → Admitted l p rs → Admitted l (place_after l p rs) more →
      Admitted l p (rs ++ more)
  unfolding place_after
  admitted_append p [] more a b = b
  admitted_append p (r ∷ rs) more a b = (a.0, admitted_append (grown l p r) rs more a.1 b)

  pub admitted_front : (p : BuilderPlace) (rs more : List Request) → Admitted l p (rs ++ more) → Admitted l p rs
  admitted_front p [] more a = record {}
  admitted_front p (r ∷ rs) more a = (a.0, admitted_front (grown l p r) rs more a.1)
