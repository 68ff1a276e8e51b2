-- Requests that a tree of the published grammar tells are refused for nothing but where they join.
use Rattle.std.proofs.Common.{ℕ, ◌≡◌, refl, Bool, true, false, not, ◌||◌, List, [], ◌∷◌, append-nil, inl, inr, eq-eqb, eqb, length}
use Rattle.cdf_unit_table.specs.Ids.{known, action_allowed, er_group, file_group}
use Rattle.cdf_unit_table.specs.States.{opens}
use Rattle.cdf_unit_prefix.specs.Layout.{Layout, id_at}
use Rattle.cdf_unit_data.specs.Data.{own_data}
use Rattle.std.specs.Prelude.{Ok}
use Rattle.cdf_unit_list.specs.Check.{check_of}
use Rattle.cdf_grammar.specs.Trees.{Forest}
use Rattle.cdf_grammar.specs.Published.{Among, Follows, TextIs, production_of}
use Rattle.cdf_grammar.specs.Encoding.{Item}
use Rattle.cdf_grammar.proofs.Fits.{own_of}
use Rattle.cdf_grammar.proofs.KindsAgree.{acts_agree, acts_known}
use Rattle.cdf_grammar.proofs.TextAgrees.{text_taken, text_exact}
use Rattle.cdf_reader_spec.specs.Calls.{is_group}
use Rattle.cdf_builder_spec.specs.declared.Begun.{Begun}
use Rattle.cdf_builder_spec.specs.Requests.{unit, group, join_number, whole_data, right_data, refused}

right_is : (id : ℕ) (text : List ℕ) → right_data id text ≡ whole_data id text (own_data id text)
unfolding right_data
right_is id text = refl

whole_is : (id : ℕ) (text : List ℕ) (k : ℕ) → whole_data id text (Ok k) ≡ (not (opens id) || eqb k (length text))
unfolding whole_data
whole_is id text k = refl

right : (id : ℕ) (text : List ℕ) → TextIs (production_of id).text text → right_data id text ≡ true
right id text is =
    let taken : own_data id text ≡ Ok (own_of id text) = rw append-nil at (text_taken id text [] is (λ o. refl)) in
    rw (right_is id text, taken, whole_is id text (own_of id text)) (go (opens id) refl)
  where
    go : (b : Bool) → opens id ≡ b → (not b || eqb (own_of id text) (length text)) ≡ true
    go true o = eq-eqb (own_of id text) (length text) (text_exact id text is o)
    go false o = refl

module _ (l : Layout) (os : List Begun) where
  refused_unit : (u : Item) → known u.id ≡ true → join_number os u.id 0 ≡ 0 → action_allowed u.id u.action ≡ true →
      right_data u.id u.text ≡ true → refused l os (unit u) 0 ≡ 0
  unfolding refused
  refused_unit u k j a r = rw (k, a, r) j

  -- A unit that follows its production.
  pub unit_asked : (id action : ℕ) (text : List ℕ) (inner : Forest) → Follows id action text inner → join_number os id 0 ≡ 0 →
      refused l os (unit (record { id = id; action = action; text = text })) 0 ≡ 0
  unit_asked id action text inner f j =
      let allowed = (acts_agree id action).0 f.acts in
      refused_unit (record { id = id; action = action; text = text }) (acts_known id action allowed) j allowed (right id text f.says)

  refused_group : (g : List ℕ) → (check_of l g).number ≡ 0 → is_group (id_at l g) ≡ true → join_number os (id_at l g) 0 ≡ 0 →
      refused l os (group g) 0 ≡ 0
  unfolding refused
  refused_group g c k j = rw (c, k) j

  -- The bytes of a group, which the check accepts.
  pub group_asked : (g : List ℕ) → (check_of l g).number ≡ 0 → (id : ℕ) → id_at l g ≡ id → Among id (er_group ∷ file_group ∷ []) →
      join_number os id 0 ≡ 0 → refused l os (group g) 0 ≡ 0
  group_asked g c id e kind j = refused_group g c (rw e (is kind)) (rw e j)
    where
      is : Among id (er_group ∷ file_group ∷ []) → is_group id ≡ true
      is (inl e) = rw e
      is (inr (inl e)) = rw e
      is (inr (inr x)) = elim x [ ]
