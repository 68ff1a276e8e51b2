-- After a whole group the stream around it is open alone, and admits only a call.
use Rattle.std.proofs.Common.{ℕ, ◌<◌, ◌≡◌, refl, sym, ap, ◌∙◌, true, not, ◌||◌, List, [], ◌∷◌, inl, inr, arith, eqb-true, T, eqb, length}
use Rattle.cdf_unit_table.specs.Ids.{call, er_group, file_group}
use Rattle.cdf_unit_table.specs.States.{rows, admit, admits_kind, unit_of, stream_group}
use Rattle.cdf_unit_table.proofs.Bools.{both}
use Rattle.cdf_unit_table.specs.Heights.{height}
use Rattle.cdf_unit_table.proofs.Heights.{kind_lower, height_most}
use Rattle.cdf_unit_table.proofs.Rows.{from_rows}
use Rattle.cdf_unit_table.proofs.Tests.{is_true}
use Rattle.cdf_unit_prefix.specs.Layout.{Layout, id_at}
use Rattle.cdf_grammar.specs.Published.{Among}
use Rattle.cdf_reader_spec.specs.Place.{nested}
use Rattle.cdf_builder_spec.specs.Place.{BuilderPlace, fits}
use Rattle.cdf_builder_spec.specs.Requests.{Request, unit, group, id_of, joining, join_number, refused}
use Rattle.cdf_builder_spec.specs.Calls.{Reply}
use Rattle.cdf_builder_spec.specs.declared.Begun.{Begun}
use Rattle.cdf_builder_spec.proofs.Fitting.{Kinds, fitting}
use Rattle.cdf_builder_spec.proofs.Replying.{call_number_lem, call_fitting}
use Rattle.cdf_builder_runs.specs.Runs.{answer}
use Rattle.cdf_builder_groups.specs.Claims.{NoCall}
use Rattle.cdf_builder_runs.proofs.Answers.{answer_called, answer_fits, answer_place}
use Rattle.cdf_builder_runs.proofs.Passed.{group_rules, group_kind}
use Rattle.cdf_builder_runs.proofs.Taken.{units_group}

-- A group leads to one state of a stream,
group_state : (state id : ℕ) → Among id (er_group ∷ file_group ∷ []) → (admit state id ≡ 0 → ⊥) → admit state id ≡ stream_group
unfolding admit
group_state state id kind =
    from_rows (λ n. (n ≡ 0 → ⊥) → n ≡ stream_group) (λ r. not (eqb r.child er_group || eqb r.child file_group) || eqb r.next stream_group) state id
    (λ no. absurd (no refl)) (λ r t d e no. go r.child r.next e t kind) rows tt
  where
    go : (c n : ℕ) → c ≡ id → T (not (eqb c er_group || eqb c file_group) || eqb n stream_group) → Among id (er_group ∷ file_group ∷ []) → n ≡ stream_group
    go c n e t (inl k) = eqb-true n stream_group (is_true (eqb n stream_group) (rw (e, k) at t))
    go c n e t (inr (inl k)) = eqb-true n stream_group (is_true (eqb n stream_group) (rw (e, k) at t))
    go c n e t (inr (inr x)) = elim x [ ]

-- in which it admits a call alone.
only_call : (id : ℕ) → (id ≡ call → ⊥) → admit stream_group id ≡ 0
unfolding admit
only_call id other =
    from_rows (λ n. n ≡ 0) (λ r. not (eqb r.state stream_group) || eqb r.child call) stream_group id refl
    (λ r t d e. absurd (other (sym e ∙ eqb-true r.child call (is_true (eqb r.child call) (rw d at t))))) rows tt

-- A stream is the highest unit, and so stands in no other.
top : height (unit_of stream_group) ≡ 4
unfolding height unit_of
top = refl

stream_outer : (o : Begun) (os : List Begun) → o.state ≡ stream_group → Kinds (o ∷ os) → os ≡ []
unfolding nested
stream_outer o [] is kinds = refl
stream_outer o (p ∷ os) is kinds =
    let lower = kind_lower (unit_of p.state) (unit_of o.state) (both (admits_kind (unit_of p.state) (unit_of o.state)) _ kinds).0 in
    let high : 4 < height (unit_of p.state) = rw (is, top) at lower in
    absurd (omega (arith, height_most (unit_of p.state), high))

-- What is no call and is not refused for itself gets 7 where no open unit admits it.
no_call : (l : Layout) (r : Request) → NoCall l r → id_of l r ≡ call → ⊥
unfolding id_of
no_call l (unit u) w z = w.1 z
no_call l (group g) w z = go (group_kind (id_at l g) w.1) z
  where
    go : Among (id_at l g) (er_group ∷ file_group ∷ []) → id_at l g ≡ call → ⊥
    go (inl k) z = omega (arith, k, z)
    go (inr (inl k)) z = omega (arith, k, z)
    go (inr (inr x)) z = elim x [ ]

seven : (l : Layout) (os : List Begun) (r : Request) (next : ℕ) → NoCall l r → joining (id_of l r) os ≡ [] → refused l os r next ≡ 7
unfolding refused join_number id_of
seven l os (unit u) next w none = rw (w.0, none)
seven l os (group g) next w none = rw (w.0, w.1, none)

none_joined : (o : Begun) (id : ℕ) → admit o.state id ≡ 0 → joining id (o ∷ []) ≡ []
unfolding joining
none_joined o id none = rw none

module _ (l : Layout) (a : Reply) (g : List ℕ) (zero : (answer l a (group g)).number ≡ 0) where
  abbrev next : Reply
  next = answer l a (group g)

  next_fits : fits l (length next.buffer) next.place ≡ true
  next_fits = answer_fits l a (group g) zero

  -- The stream alone is open.
  alone : (o : Begun) × (o.state ≡ stream_group) × (next.place.units ≡ o ∷ [])
  alone =
      let (j, checked, is) = group_rules l a.place.units g (answer_called l a (group g) zero).0 in
      let id = id_at l g in
      let had : Begun = record { state = admit j.unit.state id; start = j.unit.start } in
      let units : next.place.units ≡ had ∷ j.outer =
      ap (λ (q : BuilderPlace). q.units) (answer_place l a (group g) zero) ∙ units_group l a.place j.unit j.outer g j.joins in
      let state = group_state j.unit.state id (group_kind id is) j.admitted in
      let kinds = rw units at (fitting l (length next.buffer) next.place next_fits).kinds in
      (had, state, units ∙ ap (λ os. had ∷ os) (stream_outer had j.outer state kinds))

  pub closed_after : (r : Request) → NoCall l r → (answer l next r).number ≡ 7
  closed_after r w =
      let (o, state, units) = alone in
      let none : joining (id_of l r) next.place.units ≡ [] =
      rw units (none_joined o (id_of l r) (rw state (only_call (id_of l r) (no_call l r w)))) in
      call_number_lem l next.buffer next.place r ∙ call_fitting l (length next.buffer) next.place r next_fits
      ∙ seven l next.place.units r _ w none
