-- A place that comes with the number 0 fits the buffer.
use Rattle.std.proofs.Common.{ℕ, ◌+◌, ◌≤◌, ◌≡◌, refl, sym, ◌∙◌, Bool, true, false, cond, List, [], ◌∷◌, ◌++◌, arith, eqb, length}
use Rattle.std.proofs.lemmas.Bool.{false≢true}
use Rattle.cdf_unit_table.specs.States.{rows, parents, admit, nothing, opens, unit_of, skipped, root_kind, admits_kind}
use Rattle.cdf_unit_table.proofs.Tests.{is_true}
use Rattle.cdf_unit_table.proofs.Rows.{from_rows, from_parents, admit_kind, admits_nested, root_opens, opens_by, leaf_by}
use Rattle.cdf_unit_table.proofs.Heights.{admit_lower, opens_lower}
use Rattle.cdf_unit_prefix.specs.Layout.{Layout, prefix_of, layout_of}
use Rattle.cdf_unit_prefix.specs.declared.Edition.{Edition}
use Rattle.cdf_unit_prefix.specs.declared.Edition.TheVariants.{First, Second}
use Rattle.cdf_grammar.specs.Encoding.{unit_bytes}
use Rattle.cdf_grammar.proofs.Built.{length_unit}
use Rattle.cdf_builder_write.proofs.Patching.{length_patch}
use Rattle.cdf_builder_spec.specs.declared.Begun.{Begun}
use Rattle.cdf_builder_spec.specs.Place.{BuilderPlace, buildable, fits}
use Rattle.cdf_builder_spec.specs.Requests.{Request, unit, group, id_of, bytes_for, entering, grown}
use Rattle.cdf_builder_spec.specs.Calls.{start_of, call_number, call_of}
use Rattle.cdf_builder_spec.proofs.Fitting.{fitting, fits_true}
use Rattle.cdf_builder_spec.proofs.Nested.{Nested, Written, fitting_nested, nested_fitting, outside, outside_written, took}
use Rattle.cdf_builder_spec.proofs.Joining.{Joins, refused_is}
use Rattle.cdf_builder_spec.proofs.Lengths.{length_write}
use Rattle.cdf_builder_spec.proofs.Replying.{root_place, entering_unit, entering_group, bytes_unit, start_zero, start_number_lem, start_done}
use Rattle.cdf_builder_spec.proofs.Replying.{call_fit, call_zero, call_number_lem, call_done, grown_joins}

-- No row leads to a unit that was skipped, and no unit begins as one.
admit_buildable : (s c : ℕ) → (admit s c ≡ 0 → ⊥) → buildable (admit s c) ≡ true
unfolding admit skipped
admit_buildable s c some =
    from_rows (λ n. (n ≡ 0 → ⊥) → buildable n ≡ true) (λ r. buildable r.next) s c (λ no. absurd (no refl))
    (λ r t d e no. is_true (buildable r.next) t) rows tt some

first_buildable : (id : ℕ) → opens id ≡ true → buildable (nothing id) ≡ true
unfolding nothing skipped
first_buildable id opened =
    from_parents (λ n. (n ≡ 0 → ⊥) → buildable n ≡ true) (λ p. buildable p.first) (λ p. eqb p.id id) (λ p. p.first)
    (λ no. absurd (no refl)) (λ p t e no. is_true (buildable p.first) t) parents tt
    (λ z. false≢true (sym (leaf_by id (nothing id) refl z) ∙ opened))

-- A start leaves the root open.
pub root_fits : (l : Layout) → prefix_of l ≤ l.limit → (n id : ℕ) → root_kind id ≡ true → prefix_of l ≤ n → fits l n (root_place l id) ≡ true
root_fits l within n id root room =
    let opened = opens_by id (nothing id) refl (root_opens id root) in
    fits_true l n (root_place l id)
    (nested_fitting l n (root_place l id) room within (first_buildable id opened, rw (opens_lower id opened).own root, refl) (omega arith))

pub prefix_limit : (e : Edition) → prefix_of (layout_of e) ≤ (layout_of e).limit
prefix_limit First = omega arith
prefix_limit Second = omega arith

pub start_fits : (e : Edition) (s : List ℕ) (id : ℕ) → (start_of (layout_of e) s id).number ≡ 0 →
    fits (layout_of e) (length (start_of (layout_of e) s id).buffer) (start_of (layout_of e) s id).place ≡ true
start_fits e s id done =
    let l = layout_of e in
    let zero = sym (start_number_lem l s id) ∙ done in
    let w = (start_zero l (length s) id).0 zero in
    rw (start_done l s id zero, length_patch) (root_fits l (prefix_limit e) (length s) id w.0 w.1)

module _ (l : Layout) (p : BuilderPlace) where
  -- A unit that admits others is open after its request, inside the one that it joins.
  entered : (r : Request) (o : Begun) (os : List Begun) → admits_kind (unit_of o.state) (id_of l r) ≡ true → Nested l (o ∷ os) →
      Written l p.written (o ∷ os) →
      Nested l (entering p.written r ++ (o ∷ os)) × Written l (p.written + length (bytes_for l r)) (entering p.written r ++ (o ∷ os))
  unfolding id_of
  entered (group g) o os kind h w = rw (entering_group p.written g) (h, omega arith)
  entered (unit u) o os kind h w = rw (entering_unit p.written u, bytes_unit l u) (go (opens u.id) refl)
    where
      bytes : List ℕ
      bytes = unit_bytes l u.id u.action u.text []

      left : Bool → List Begun
      left b = cond b (record { state = nothing u.id; start = p.written } ∷ []) [] ++ (o ∷ os)

      go : (b : Bool) → opens u.id ≡ b → Nested l (left b) × Written l (p.written + length bytes) (left b)
      go true e =
          let x = opens_lower u.id e in
          ((first_buildable u.id e, rw x.own kind, w, h), omega (arith, length_unit l u.id u.action u.text []))
      go false e = (h, omega arith)

  -- The units that are open after a request, if it joins one of these.
  abbrev after : (r : Request) → Joins p.units (id_of l r) → List Begun
  after r j = entering p.written r ++ (record { state = admit j.unit.state (id_of l r); start = j.unit.start } ∷ j.outer)

  after_nested : Nested l p.units → Written l p.written p.units → (r : Request) (j : Joins p.units (id_of l r)) →
      Nested l (after r j) × Written l (p.written + length (bytes_for l r)) (after r j)
  after_nested h w r j =
      let state = j.unit.state in
      let id = id_of l r in
      let stays = (admit_lower state id j.admitted).stays in
      let all = rw j.parts at h in
      entered r (record { state = admit state id; start = j.unit.start }) j.outer
      (rw stays (admit_kind state id (λ z. j.admitted (sym (admits_nested state id) ∙ z))))
      (took l j.unit j.outer (admit state id) stays (admit_buildable state id j.admitted) (outside l j.inner j.unit j.outer all))
      (outside_written l p.written j.inner j.unit j.outer all (rw j.parts at w))

-- A call leaves the unit open that admits the request, and the new one if it admits others.
pub next_fits : (l : Layout) (n : ℕ) (p : BuilderPlace) (r : Request) → call_number l n p r ≡ 0 → fits l n (grown l p r) ≡ true
next_fits l n p r zero =
    let fit = call_fit l n p r zero in
    let (right, within, room) = (call_zero l n p r fit).0 zero in
    let j = (refused_is l p.units r 0 right).0 in
    let h = fitting_nested l n p (fitting l n p fit) in
    let a = after_nested l p h.0 h.1 r j in
    rw (grown_joins l p r j)
    (fits_true l n _
    (nested_fitting l n (record { written = p.written + length (bytes_for l r); units = after l p r j }) room within a.0 a.1))

pub call_fits : (l : Layout) (s : List ℕ) (p : BuilderPlace) (r : Request) → (call_of l s p r).number ≡ 0 →
    fits l (length (call_of l s p r).buffer) (call_of l s p r).place ≡ true
call_fits l s p r done = rw (call_done l s p r done, length_write) (next_fits l (length s) p r (sym (call_number_lem l s p r) ∙ done))
