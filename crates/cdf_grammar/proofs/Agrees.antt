-- Trees conform to the published grammar exactly if they fit the rules of one unit.
use Rattle.std.proofs.Common.{ℕ, ◌≡◌, refl, sym, subst, Bool, true, false, cond, List, [], ◌∷◌, ◌++◌, append-nil, ◌↔◌, inl, inr, T, eqb, eqb→eq}
use Rattle.std.proofs.Common.{length, take}
use mathlib.Core.Bool.{or-false}
use mathlib.Core.List.{cons≢nil}
use lib.Seq.{take-append_seam, take-length}
use Rattle.cdf_unit_prefix.specs.Layout.{Layout}
use Rattle.cdf_unit_table.specs.Ids.{member, action_allowed, stream, er_group, file_group}
use Rattle.cdf_unit_table.specs.States.{opens, root_kind}
use Rattle.cdf_unit_table.proofs.Tests.{or_else}
use Rattle.cdf_unit_table.proofs.Bools.{clash}
use Rattle.cdf_grammar.specs.Content.{Spells}
use Rattle.cdf_grammar.specs.Trees.{Forest, none, tree, ids}
use Rattle.cdf_grammar.specs.Published.{Follows, Conforms, production_of, cdf_data_stream}
use Rattle.cdf_grammar.specs.Encoding.{encode}
use Rattle.cdf_grammar.proofs.Fits.{own_of, Passes, Fits}
use Rattle.cdf_grammar.proofs.KindsAgree.{acts_agree, acts_known}
use Rattle.cdf_grammar.proofs.RowsAgree.{content_agrees, leaf_agrees}
use Rattle.cdf_grammar.proofs.TextAgrees.{text_taken, text_exact, taken_text}

no_trees : (t : Forest) → (ids t ≡ []) ↔ (t ≡ none)
unfolding ids
no_trees none = (λ e. refl, λ e. refl)
no_trees (tree id action text inner rest) = (λ e. absurd (cons≢nil e), λ e. clash cc)

module _ (l : Layout) (id action : ℕ) (text : List ℕ) (inner : Forest) where
  follows_passes : Follows id action text inner → Passes l id action text inner
  unfolding encode
  follows_passes f =
      let allowed : action_allowed id action ≡ true = (acts_agree id action).0 f.acts in
      let leaf : opens id ≡ false → inner ≡ none = λ o. (no_trees inner).0 ((leaf_agrees id o (ids inner)).0 f.holds) in
      record {
        recognised = acts_known id action allowed;
        allowed = allowed;
        taken = text_taken id text (encode l inner) f.says (λ o. rw (leaf o));
        exact = text_exact id text f.says;
        full = λ o. (content_agrees id o (ids inner)).0 f.holds;
        leaf = leaf;
      }

  passes_follows : Passes l id action text inner → Follows id action text inner
  unfolding encode
  passes_follows p =
      let w = go (opens id) refl in
      record {
        acts = (acts_agree id action).1 p.allowed;
        says = (taken_text id p.recognised (text ++ encode l inner) (own_of id text) p.taken text w.0).0;
        holds = w.1;
      }
    where
      go : (b : Bool) → opens id ≡ b →
          (text ≡ take (cond b (own_of id text) (length (text ++ encode l inner))) (text ++ encode l inner)) ×
          Spells (production_of id).content (ids inner)
      go true e = (rw (p.exact e, take-append_seam), (content_agrees id e (ids inner)).1 (p.full e))
      go false e = (rw (p.leaf e, append-nil, take-length), (leaf_agrees id e (ids inner)).1 ((no_trees inner).1 (p.leaf e)))

pub fits : (l : Layout) (t : Forest) → Conforms t → Fits l t
fits l none c = c
fits l (tree id action text inner rest) c = (follows_passes l id action text inner c.0, fits l inner c.1, fits l rest c.2)

pub conforms : (l : Layout) (t : Forest) → Fits l t → Conforms t
conforms l none f = f
conforms l (tree id action text inner rest) f = (passes_follows l id action text inner f.0, conforms l inner f.1, conforms l rest f.2)

-- The root is one unit, of a kind that a stream may have as its root.
pub root_agrees : (t : Forest) → Spells cdf_data_stream (ids t) ↔ ((id : ℕ) × (ids t ≡ id ∷ []) × (root_kind id ≡ true))
unfolding root_kind member
root_agrees t = (kind, λ r. spells r.0 r.1 (subst T (sym r.2) tt))
  where
    kind : Spells cdf_data_stream (ids t) → (id : ℕ) × (ids t ≡ id ∷ []) × (root_kind id ≡ true)
    kind (inl e) = (stream, e, refl)
    kind (inr (inl e)) = (er_group, e, refl)
    kind (inr (inr e)) = (file_group, e, refl)

    spells : (id : ℕ) → ids t ≡ id ∷ [] → T (root_kind id) → Spells cdf_data_stream (ids t)
    spells id e k =
        let is : (x : ℕ) → T (eqb id x) → ids t ≡ x ∷ [] = λ x a. rw (eqb→eq id x a) at e in
        elim (or_else (eqb id stream) _ k) [
          | inl a ↦ inl (is stream a)
          | inr b ↦ inr (elim (or_else (eqb id er_group) _ b)
              [ inl a ↦ inl (is er_group a) | inr c ↦ inr (is file_group (rw or-false at c)) ])
        ]
