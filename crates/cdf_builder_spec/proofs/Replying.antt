-- The builder's calls, one stage at a time. To unfold a call would unfold the rows too, so these equations stand for that.
use Rattle.std.proofs.Common.{ℕ, ◌+◌, ◌≤◌, ◌≡◌, refl, sym, subst, ◌∙◌, true, not, cond, List, [], ◌∷◌, ◌++◌, ◌↔◌, arith, eq-eqb, ne_eqb, eqb-true}
use Rattle.std.proofs.Common.{ltb-false, le-ltb, T, ltb, eqb, length}
use Rattle.std.proofs.lemmas.Bool.{not-false}
use Rattle.cdf_unit_table.specs.Ids.{known, stream, er_group, file_group}
use Rattle.cdf_unit_table.specs.States.{opens, nothing, admit, root_kind}
use Rattle.cdf_unit_table.proofs.Bools.{past, of_cond}
use Rattle.cdf_unit_table.proofs.Match.{each, among}
use Rattle.cdf_unit_prefix.specs.Layout.{Layout, prefix_of}
use Rattle.cdf_grammar.specs.Encoding.{unit_bytes, Item}
use Rattle.cdf_builder_write.specs.Patch.{patch}
use Rattle.cdf_builder_write.proofs.Lent.{length_alone}
use Rattle.cdf_builder_spec.specs.declared.Begun.{Begun}
use Rattle.cdf_builder_spec.specs.Place.{BuilderPlace, fits}
use Rattle.cdf_builder_spec.specs.Requests.{Request, unit, group, id_of, bytes_for, joining, advanced, entering, refused, grown}
use Rattle.cdf_builder_spec.specs.Calls.{Reply, no_builder_place, room, start_number, start_of, call_number, decide_of, write_of, call_of}
use Rattle.cdf_builder_spec.specs.Orders.{size_with}
use Rattle.cdf_builder_spec.proofs.Joining.{Joins, refused_is, refused_then}
use Rattle.cdf_builder_spec.proofs.Lengths.{length_write}

-- The place in which a start leaves the builder.
abbrev pub root_place : Layout → ℕ → BuilderPlace
root_place l id = record { written = prefix_of l; units = record { state = nothing id; start = 0 } ∷ [] }

pub room_tests : (l : Layout) (n size : ℕ) → room l n size ≡ cond (ltb l.limit size) 13 (cond (ltb n size) 12 0)
unfolding room
room_tests l n size = refl

pub start_tests : (l : Layout) (n id : ℕ) →
    start_number l n id ≡ cond (not (known id)) 6 (cond (not (root_kind id)) 7 (cond (ltb n (prefix_of l)) 12 0))
unfolding start_number
start_tests l n id = refl

start_is : (l : Layout) (s : List ℕ) (id : ℕ) →
    start_of l s id
    ≡ cond (eqb (start_number l (length s) id) 0)
    (record { number = 0; place = root_place l id; buffer = patch 0 (unit_bytes l id 0 [] []) s })
    (record { number = start_number l (length s) id; place = no_builder_place; buffer = s })
unfolding start_of
start_is l s id = refl

pub call_tests : (l : Layout) (n : ℕ) (p : BuilderPlace) (r : Request) →
    call_number l n p r
    ≡ cond (not (fits l n p)) 2 (refused l p.units r (room l n (p.written + length (bytes_for l r))))
unfolding call_number
call_tests l n p r = refl

decide_is : (l : Layout) (n : ℕ) (p : BuilderPlace) (r : Request) →
    decide_of l n p r ≡ record { number = call_number l n p r; place = cond (eqb (call_number l n p r) 0) (grown l p r) p }
unfolding decide_of
decide_is l n p r = refl

pub call_is : (l : Layout) (s : List ℕ) (p : BuilderPlace) (r : Request) →
    call_of l s p r
    ≡ record {
      number = (decide_of l (length s) p r).number;
      place = (decide_of l (length s) p r).place;
      buffer = cond (eqb (decide_of l (length s) p r).number 0)
          (write_of l p.written (decide_of l (length s) p r).place (bytes_for l r) s) s;
    }
unfolding call_of
call_is l s p r = refl

pub grown_written : (l : Layout) (p : BuilderPlace) (r : Request) → (grown l p r).written ≡ p.written + length (bytes_for l r)
unfolding grown
grown_written l p r = refl

grown_is : (l : Layout) (p : BuilderPlace) (r : Request) →
    grown l p r
    ≡ record {
      written = p.written + length (bytes_for l r);
      units = entering p.written r ++ advanced (id_of l r) (joining (id_of l r) p.units);
    }
unfolding grown
grown_is l p r = refl

advanced_cons : (id : ℕ) (o : Begun) (os : List Begun) →
    advanced id (o ∷ os) ≡ record { state = admit o.state id; start = o.start } ∷ os
unfolding advanced
advanced_cons id o os = refl

pub entering_unit : (at : ℕ) (u : Item) →
    entering at (unit u) ≡ cond (opens u.id) (record { state = nothing u.id; start = at } ∷ []) []
unfolding entering
entering_unit at u = refl

pub entering_group : (at : ℕ) (g : List ℕ) → entering at (group g) ≡ []
unfolding entering
entering_group at g = refl

pub bytes_unit : (l : Layout) (u : Item) → bytes_for l (unit u) ≡ unit_bytes l u.id u.action u.text []
unfolding bytes_for
bytes_unit l u = refl

pub unit_size : (l : Layout) (u : Item) → length (bytes_for l (unit u)) ≡ prefix_of l + length u.text
unit_size l u = rw (bytes_unit l u) (length_alone l u.id u.action u.text)

-- A root's kind is known.
root_known : (id : ℕ) → root_kind id ≡ true → known id ≡ true
unfolding root_kind known
root_known id e =
    let kinds = stream ∷ er_group ∷ file_group ∷ [] in
    each (λ k. known k ≡ true) kinds (refl, (refl, (refl, tt))) id (among kinds id id (subst T (sym e) tt) refl)

-- The number of a start is 0 exactly if its root is of a root's kind and there is room for it.
pub start_zero : (l : Layout) (n id : ℕ) → (start_number l n id ≡ 0) ↔ ((root_kind id ≡ true) × (prefix_of l ≤ n))
start_zero l n id = (
  λ e.
      let a = past (not (known id)) 6 _ (λ z. omega arith) (sym (start_tests l n id) ∙ e) in
      let b = past (not (root_kind id)) 7 _ (λ z. omega arith) a.1 in
      let c = past (ltb n (prefix_of l)) 12 0 (λ z. omega arith) b.1 in
      (not-false (root_kind id) b.0, ltb-false n (prefix_of l) c.0),
  λ w. rw (start_tests l n id, root_known id w.0, w.0, le-ltb n (prefix_of l) w.1),
)

-- A start that is done, and one that is refused.
module _ (l : Layout) (s : List ℕ) (id : ℕ) where
  abbrev number : ℕ
  number = start_number l (length s) id

  pub start_number_lem : (start_of l s id).number ≡ number
  start_number_lem =
      rw (start_is l s id)
      (of_cond (λ (a : Reply). a.number ≡ number) (eqb number 0) _ _ (λ e. sym (eqb-true number 0 e)) (λ e. refl))

  pub start_done : number ≡ 0 → start_of l s id ≡ record { number = 0; place = root_place l id; buffer = patch 0 (unit_bytes l id 0 [] []) s }
  start_done e = rw (start_is l s id, eq-eqb number 0 e)

  pub start_kept : ((start_of l s id).number ≡ 0 → ⊥) → ((start_of l s id).place ≡ no_builder_place) × ((start_of l s id).buffer ≡ s)
  start_kept some =
      let no = ne_eqb number 0 (λ e. some (start_number_lem ∙ e)) in
      (rw (start_is l s id, no), rw (start_is l s id, no))

-- A call's number is 0 exactly if the place fits, the request is right and there is room for it.
module _ (l : Layout) (n : ℕ) (p : BuilderPlace) (r : Request) where
  pub call_fit : call_number l n p r ≡ 0 → fits l n p ≡ true
  call_fit e = not-false (fits l n p) (past (not (fits l n p)) 2 _ (λ z. omega arith) (sym (call_tests l n p r) ∙ e)).0

  room_zero : (room l n (size_with l p r) ≡ 0) ↔ ((size_with l p r ≤ l.limit) × (size_with l p r ≤ n))
  room_zero = (
    λ e.
        let a = past (ltb l.limit (size_with l p r)) 13 _ (λ z. omega arith) (sym (room_tests l n (size_with l p r)) ∙ e) in
        let b = past (ltb n (size_with l p r)) 12 0 (λ z. omega arith) a.1 in
        (ltb-false l.limit (size_with l p r) a.0, ltb-false n (size_with l p r) b.0),
    λ w. rw (room_tests l n (size_with l p r), le-ltb l.limit (size_with l p r) w.0, le-ltb n (size_with l p r) w.1),
  )

  pub call_fitting : fits l n p ≡ true → call_number l n p r ≡ refused l p.units r (room l n (size_with l p r))
  call_fitting fit = rw (call_tests l n p r, fit)

  pub call_zero : fits l n p ≡ true →
      (call_number l n p r ≡ 0) ↔ ((refused l p.units r 0 ≡ 0) × (size_with l p r ≤ l.limit) × (size_with l p r ≤ n))
  call_zero fit = (
    λ e.
        let w = refused_is l p.units r (room l n (size_with l p r)) (sym (call_fitting fit) ∙ e) in
        let v = room_zero.0 w.1 in
        (w.2, v.0, v.1),
    λ w. call_fitting fit ∙ refused_then l p.units r (room l n (size_with l p r)) w.0 ∙ room_zero.1 (w.1, w.2),
  )

-- A call that is done, and one that is refused.
module _ (l : Layout) (s : List ℕ) (p : BuilderPlace) (r : Request) where
  pub call_number_lem : (call_of l s p r).number ≡ call_number l (length s) p r
  call_number_lem = rw (call_is l s p r, decide_is l (length s) p r)

  pub call_done : (call_of l s p r).number ≡ 0 →
      call_of l s p r ≡ record { number = 0; place = grown l p r; buffer = write_of l p.written (grown l p r) (bytes_for l r) s }
  call_done e = rw (call_is l s p r, decide_is l (length s) p r, sym call_number_lem ∙ e)

  pub call_kept : ((call_of l s p r).number ≡ 0 → ⊥) → ((call_of l s p r).place ≡ p) × ((call_of l s p r).buffer ≡ s)
  call_kept some =
      let no = ne_eqb (call_number l (length s) p r) 0 (λ e. some (call_number_lem ∙ e)) in
      (rw (call_is l s p r, decide_is l (length s) p r, no), rw (call_is l s p r, decide_is l (length s) p r, no))

  -- The buffer's length stays.
  pub call_length : length (call_of l s p r).buffer ≡ length s
  call_length =
      rw (call_is l s p r)
      (of_cond (λ (t : List ℕ). length t ≡ length s) (eqb (decide_of l (length s) p r).number 0) _ s
      (λ e. length_write l p.written (decide_of l (length s) p r).place (bytes_for l r) s) (λ e. refl))

-- The place that it makes: the unit that admits the id has had it, those inside that one are closed.
pub grown_joins : (l : Layout) (p : BuilderPlace) (r : Request) (j : Joins p.units (id_of l r)) →
    grown l p r
    ≡ record {
      written = p.written + length (bytes_for l r);
      units = entering p.written r ++ (record { state = admit j.unit.state (id_of l r); start = j.unit.start } ∷ j.outer);
    }
grown_joins l p r j = rw (grown_is l p r, j.joins, advanced_cons (id_of l r) j.unit j.outer)
