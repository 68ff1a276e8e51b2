-- The trees that the open units come to once all end: their units are lower than those around them, there is one root, and the
-- requests tell of them. Whether the open units are complete is not asked.
use Rattle.std.proofs.Common.{ℕ, ◌≡◌, ◌∙◌, List, [], ◌∷◌}
use Rattle.cdf_unit_table.specs.States.{nothing}
use Rattle.cdf_unit_table.specs.Heights.{height}
use Rattle.cdf_unit_table.proofs.Heights.{level, opens_lower}
use Rattle.cdf_unit_prefix.specs.Layout.{Layout}
use Rattle.cdf_grammar.specs.Trees.{Forest, none, tree, ids}
use Rattle.cdf_grammar.proofs.Agrees.{fits}
use Rattle.cdf_grammar.proofs.Heights.{OfHeight, lower, through_height}
use Rattle.cdf_grammar.proofs.Items.{Low, low}
use Rattle.cdf_builder_spec.specs.Requests.{Request}
use Rattle.cdf_builder_spec.specs.declared.Begun.{Begun}
use Rattle.cdf_builder_runs.specs.Telling.{Tells}
use Rattle.cdf_builder_runs.proofs.Forests.{append}
use Rattle.cdf_builder_runs.proofs.Growing.{Frame, shut, shut_all}
use Rattle.cdf_builder_runs.proofs.Spine.{HeldUnit, Held, Told, shut_told}
use Rattle.cdf_builder_runs.proofs.Ending.{root_told}

low_append : (f g : Forest) → Low f → Low g → Low (append f g)
unfolding append
low_append none g a b = b
low_append (tree id action text inner rest) g (p, within, after) b = (p, within, low_append rest g after b)

module _ (l : Layout) where
  -- The units in an open unit are of one height,
  had_height : (fs : List Frame) (f : Frame) (kids : Forest) (o : Begun) → HeldUnit l fs f kids o → OfHeight (level f.id) (ids kids)
  had_height fs f kids o u =
      rw (opens_lower f.id u.parent).own at (through_height (nothing f.id) (ids kids) (λ z. u.some (u.state ∙ z)))

  -- lower than its own.
  shut_low : (fs : List Frame) (f : Frame) (kids : Forest) (o : Begun) → HeldUnit l fs f kids o → Low kids → Low (shut f kids)
  shut_low fs f kids o u k =
      let id = f.id in
      let inside = lower (level id) (height id) (ids kids) (opens_lower id u.parent).lower (had_height fs f kids o u) in
      low_append f.before (tree id f.action f.text kids none) (low l f.before (fits l f.before u.before)) (inside, k, record {})

  pub all_low : (fs : List Frame) (kids : Forest) (os : List Begun) → Held l fs kids os → Low kids →
      Low (shut_all fs kids) × ((id : ℕ) × (ids (shut_all fs kids) ≡ id ∷ []))
  unfolding shut_all
  all_low [] kids [] h k = (k, (h.0, h.1))
  all_low [] kids (o ∷ os) h k = absurd h
  all_low (f ∷ fs) kids [] h k = absurd h
  all_low (f ∷ fs) kids (o ∷ os) (u, around) k = all_low fs (shut f kids) os around (shut_low fs f kids o u k)

  pub all_told : (fs : List Frame) (kids : Forest) (rs : List Request) → Told l fs kids rs → Tells l (shut_all fs kids) rs
  unfolding shut_all
  all_told [] kids rs t = root_told l kids rs t
  all_told (f ∷ fs) kids rs t = all_told fs (shut f kids) rs (shut_told l f fs kids rs t)
