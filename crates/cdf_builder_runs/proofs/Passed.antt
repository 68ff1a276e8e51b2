-- What a request is that no rule refuses: a unit that follows its production, or the bytes of a group's tree.
use Rattle.std.proofs.Common.{ℕ, ◌≡◌, refl, Bool, true, false, cond, not, ◌||◌, List, [], ◌∷◌, inl, inr, ⊎_elim, arith, eqb-true, eqb, length, take}
use Rattle.std.proofs.lemmas.Bool.{false≢true, not-false}
use lib.Seq.{take-length}
use Rattle.cdf_unit_table.specs.Ids.{known, action_allowed, er_group, file_group}
use Rattle.cdf_unit_table.specs.States.{opens}
use Rattle.cdf_unit_table.proofs.Bools.{both, either, past}
use Rattle.cdf_unit_prefix.specs.Layout.{Layout, layout_of, id_at}
use Rattle.cdf_unit_prefix.specs.declared.Edition.{Edition}
use Rattle.cdf_unit_data.specs.Data.{own_data, Own}
use Rattle.std.specs.Prelude.{Ok, Err}
use Rattle.cdf_unit_list.specs.Check.{check_of}
use Rattle.cdf_grammar.specs.Trees.{Forest, none, tree}
use Rattle.cdf_grammar.specs.Published.{Among, TextIs, production_of}
use Rattle.cdf_grammar.specs.Encoding.{Bytes, Stream, Item}
use Rattle.cdf_grammar.proofs.KindsAgree.{acts_agree}
use Rattle.cdf_grammar.proofs.TextAgrees.{taken_text}
use Rattle.cdf_grammar.proofs.Within.{stream_root}
use Rattle.cdf_grammar.proofs.Proved.{proved}
use Rattle.cdf_reader_spec.specs.Calls.{is_group}
use Rattle.cdf_builder_spec.specs.Requests.{unit, group, whole_data, right_data, accepted_group, refused}
use Rattle.cdf_builder_spec.specs.declared.Begun.{Begun}
use Rattle.cdf_builder_spec.proofs.Joining.{Joins, joined_is}

-- The own data is as the production says.
right_text : (id : ℕ) (text : List ℕ) → known id ≡ true → right_data id text ≡ true → TextIs (production_of id).text text
unfolding right_data whole_data
right_text id text real right = go (own_data id text) refl right
  where
    part : (b : Bool) (k : ℕ) → (not b || eqb k (length text)) ≡ true → text ≡ take (cond b k (length text)) text
    part true k e = rw (eqb-true k (length text) e, take-length)
    part false k e = rw take-length

    go : (own : Own) → own_data id text ≡ own → whole_data id text own ≡ true → TextIs (production_of id).text text
    go (Ok k) e w = (taken_text id real text k e text (part (opens id) k w)).0
    go (Err k) e w = absurd (false≢true w)

pub record UnitPassed (os : List Begun) (u : Item) : Type 0 where
  pub joins : Joins os u.id
  pub acts : Among u.action (production_of u.id).actions
  pub says : TextIs (production_of u.id).text u.text

pub unit_passed : (l : Layout) (os : List Begun) (u : Item) → refused l os (unit u) 0 ≡ 0 → UnitPassed os u
unfolding refused
unit_passed l os u e =
    let k = past (not (known u.id)) 6 _ (λ z. omega arith) e in
    let j = joined_is os u.id _ k.1 in
    let a = past (not (action_allowed u.id u.action)) 8 _ (λ z. omega arith) j.1 in
    let d = past (not (right_data u.id u.text)) 9 0 (λ z. omega arith) a.1 in
    record {
      joins = j.0;
      acts = (acts_agree u.id u.action).1 (not-false (action_allowed u.id u.action) a.0);
      says = right_text u.id u.text (not-false (known u.id) k.0) (not-false (right_data u.id u.text) d.0);
    }

pub record GroupPassed (l : Layout) (os : List Begun) (g : List ℕ) : Type 0 where
  pub joins : Joins os (id_at l g)
  pub action : ℕ
  pub text : List ℕ
  pub inner : Forest
  pub kind : Among (id_at l g) (er_group ∷ file_group ∷ [])
  pub stream : Stream l g (tree (id_at l g) action text inner none)

pub group_rules : (l : Layout) (os : List Begun) (g : List ℕ) → refused l os (group g) 0 ≡ 0 →
    Joins os (id_at l g) × ((check_of l g).number ≡ 0) × (is_group (id_at l g) ≡ true)
unfolding refused accepted_group
group_rules l os g r =
    let a = past (not (accepted_group l g)) 14 _ (λ z. omega arith) r in
    let w = both (eqb (check_of l g).number 0) (is_group (id_at l g)) (not-false (accepted_group l g) a.0) in
    ((joined_is os (id_at l g) 0 a.1).0, eqb-true (check_of l g).number 0 w.0, w.1)

pub group_kind : (id : ℕ) → is_group id ≡ true → Among id (er_group ∷ file_group ∷ [])
group_kind id e =
    ⊎_elim (λ x. inl (eqb-true id er_group x)) (λ x. inr (inl (eqb-true id file_group x))) (either (eqb id er_group) (eqb id file_group) e)

pub group_passed : (e : Edition) (os : List Begun) (g : List ℕ) → Bytes g → refused (layout_of e) os (group g) 0 ≡ 0 →
    GroupPassed (layout_of e) os g
group_passed e os g bytes r =
    let l = layout_of e in
    let w = group_rules l os g r in
    let t = ((proved.streams e).exactly g bytes).0 w.1 in
    let s = stream_root l g t.0 t.1 in
    record { joins = w.0; action = s.0; text = s.1; inner = s.2; kind = group_kind (id_at l g) w.2; stream = s.3 }
