-- What a call and a start answer, by what was decided and written.
use Rattle.std.proofs.Common.{ℕ, ◌<◌, ◌%◌, ◌≡◌, refl, sym, ap, ◌∙◌, Bool, true, false, cond, List, [], arith, mod-eq_of_lt, ne_eqb, ltb-true}
use Rattle.std.proofs.Common.{leb-true, leb-false, lt-ltb, T, eqb, leb, ltb, length}
use Rattle.std.proofs.lemmas.Bool.{false≢true}
use Rattle.std.specs.Prelude.{Ok, Err}
use Rattle.cdf_refusal.specs.Numbers.{number_of}
use Rattle.cdf_refusal.specs.declared.Refusal.{Refusal}
use Rattle.cdf_refusal.proofs.Apart.{refuses}
use Rattle.cdf_unit_table.specs.Ids.{known, ids_end, kind_of, action_allowed}
use Rattle.cdf_unit_table.specs.States.{root_kind}
use Rattle.cdf_unit_table.proofs.Bools.{both}
use Rattle.cdf_unit_table.proofs.Tests.{all, below_at, not_member}
use Rattle.cdf_unit_prefix.specs.Layout.{Layout, prefix_of}
use Rattle.cdf_grammar.specs.Encoding.{Item, unit_bytes}
use Rattle.cdf_builder_spec.specs.Requests.{Request, unit, bytes_for}
use Rattle.cdf_builder_spec.specs.Calls.{Reply, Decision, no_builder_place, start_number, start_of, decide_of, write_of, call_of}
use Rattle.cdf_builder_spec.specs.Place.{BuilderPlace}
use Rattle.cdf_builder_spec.proofs.Replying.{bytes_unit}
use Rattle.cdf_builder_spec.specs.Slots.{placed}
use Rattle.cdf_builder_spec.specs.declared.Parts.{Parts}
use Rattle.cdf_builder_decide.specs.Grown.{decision_of}
use Rattle.cdf_builder_decide.proofs.Stages.{decided_done, allowed}
use Rattle.cdf_builder_decide.proofs.Few.{few_after}
use Rattle.cdf_builder_append.specs.Held.{held}
use Rattle.cdf_builder_append.proofs.Held.{held_few}
use Rattle.cdf_builder_calls.specs.Replies.{reply_of}

-- An id that is known and an action that is allowed are bytes.
pub id_byte : (id : ℕ) → known id ≡ true → id % 256 ≡ id
unfolding known
id_byte id e = mod-eq_of_lt (omega (arith, ltb-true id ids_end (both (leb 1 id) (ltb id ids_end) e).1))

pub action_byte : (id action : ℕ) → known id ≡ true → action_allowed id action ≡ true → action % 256 ≡ action
unfolding known kind_of action_allowed
action_byte id action k e =
    let low = ltb-true id ids_end (both (leb 1 id) (ltb id ids_end) k).1 in
    let small = below_at (λ k. all (λ x. ltb x 256) (kind_of k).actions) ids_end tt id low in
    mod-eq_of_lt (go (leb 256 action) refl small)
  where
    go : (b : Bool) → leb 256 action ≡ b → T (all (λ x. ltb x 256) (kind_of id).actions) → action < 256
    go true h small = absurd (false≢true (sym (not_member (kind_of id).actions 256 small action (leb-true 256 action h)) ∙ e))
    go false h small = leb-false 256 action h

module _ (l : Layout) (s : List ℕ) (p : Parts) (r : Request) where
  abbrev by : Decision → Reply
  by d = record { number = d.number; place = d.place; buffer = cond (eqb d.number 0) (write_of l p.written d.place (bytes_for l r) s) s }

  pub refusing : (f : Refusal) → decision_of p (Err f) ≡ decide_of l (length s) (placed p) r → reply_of p (Err f) s ≡ call_of l s (placed p) r
  unfolding call_of
  refusing f d =
      let here : reply_of p (Err f) s ≡ by (decision_of p (Err f)) = rw (ne_eqb (number_of f) 0 (refuses f)) in
      here ∙ ap by d

  -- The place has a slot for each unit that is then open.
  pub writing : (q : Parts) → decision_of p (Ok q) ≡ decide_of l (length s) (placed p) r → (t : List ℕ) →
      t ≡ write_of l p.written (held q) (bytes_for l r) s → reply_of p (Ok q) t ≡ call_of l s (placed p) r
  unfolding call_of
  writing q d t e =
      let all = held_few q (few_after l (length s) p r q d) in
      let wrote = e ∙ ap (λ (q : BuilderPlace). write_of l p.written q (bytes_for l r) s) all in
      let here : reply_of p (Ok q) t ≡ by (decision_of p (Ok q)) = rw wrote in
      here ∙ ap by d

-- The bytes of a unit that is not refused.
pub unit_bytes_lem : (l : Layout) (n : ℕ) (p : BuilderPlace) (u : Item) (q : Parts) → record { number = 0; place = placed q } ≡ decide_of l n p (unit u) →
    unit_bytes l (u.id % 256) (u.action % 256) u.text [] ≡ bytes_for l (unit u)
unit_bytes_lem l n p u q d =
    let w = allowed l n p u (decided_done l n p (unit u) q d) in
    rw (id_byte u.id w.0, action_byte u.id u.action w.0 w.1) (sym (bytes_unit l u))

module _ (l : Layout) (s : List ℕ) (id : ℕ) where
  refused : (k : ℕ) → start_number l (length s) id ≡ k → (k ≡ 0 → ⊥) → start_of l s id ≡ record { number = k; place = no_builder_place; buffer = s }
  unfolding start_of
  refused k e some = rw (e, ne_eqb k 0 some)

  pub start_unknown : known id ≡ false → start_of l s id ≡ record { number = 6; place = no_builder_place; buffer = s }
  unfolding start_number
  start_unknown k = refused 6 (rw k) (λ e. omega arith)

  pub start_inner : known id ≡ true → root_kind id ≡ false → start_of l s id ≡ record { number = 7; place = no_builder_place; buffer = s }
  unfolding start_number
  start_inner k r = refused 7 (rw (k, r)) (λ e. omega arith)

  pub start_full : known id ≡ true → root_kind id ≡ true → length s < prefix_of l →
      start_of l s id ≡ record { number = 12; place = no_builder_place; buffer = s }
  unfolding start_number
  start_full k r h = refused 12 (rw (k, r, lt-ltb (length s) (prefix_of l) h)) (λ e. omega arith)
