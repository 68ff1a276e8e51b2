-- Open units that lie in one another: what each admits is lower than what the one around it admits.
use Rattle.std.proofs.Common.{ℕ, ◌<◌, ◌≡◌, true, not, ◌&&◌, ◌||◌, List, [], ◌∷◌, ◌++◌, arith, eqb-true, ltb-true, leb-true, ne_eqb, eqb, leb, ltb}
use Rattle.std.proofs.Common.{ltb→lt}
use Rattle.cdf_unit_table.specs.States.{rows, states_end, unit_of, admits_kind, complete, skipped}
use Rattle.cdf_unit_table.specs.Heights.{height}
use Rattle.cdf_unit_table.proofs.Bools.{both}
use Rattle.cdf_unit_table.proofs.Heights.{level}
use Rattle.cdf_unit_table.proofs.Rows.{any_row_lem}
use Rattle.cdf_unit_table.proofs.Tests.{is_true, below_at}
use Rattle.cdf_unit_prefix.specs.Layout.{Layout}
use Rattle.cdf_reader_spec.specs.Place.{is_state}
use Rattle.cdf_builder_spec.specs.Place.{buildable}
use Rattle.cdf_builder_spec.specs.Requests.{completed}
use Rattle.cdf_builder_spec.specs.declared.Begun.{Begun}
use Rattle.cdf_builder_spec.proofs.Nested.{Nested}
use Rattle.cdf_builder_runs.proofs.Shut.{Shut}

-- A kind that a unit admits is as high as all that it admits,
kind_level : (unit child : ℕ) → admits_kind unit child ≡ true → height child ≡ level unit
unfolding admits_kind height level unit_of
kind_level unit child e =
    any_row_lem (λ r. eqb (unit_of r.state) unit && eqb r.child child) (λ r. eqb (height r.child) (level (unit_of r.state)))
    (height child ≡ level unit) rows tt e
    (λ r t h.
    let w = both (eqb (unit_of r.state) unit) (eqb r.child child) h in
    rw (eqb-true (unit_of r.state) unit w.0, eqb-true r.child child w.1) at
    (eqb-true (height r.child) (level (unit_of r.state)) (is_true (eqb (height r.child) (level (unit_of r.state))) t)))

-- and what an open unit admits is lower than the unit.
state_level : (state : ℕ) → is_state state ≡ true → level (unit_of state) < height (unit_of state)
unfolding height level unit_of
state_level state e =
    let low = both (leb 1 state) (ltb state states_end) e in
    let t =
    below_at (λ k. eqb k 0 || ltb (level (unit_of k)) (height (unit_of k))) states_end tt state (ltb-true state states_end low.1) in
    ltb→lt (level (unit_of state)) (height (unit_of state)) (rw (ne_eqb state 0 (λ z. omega (arith, leb-true 1 state low.0))) at t)

falls : (x o : Begun) → buildable x.state ≡ true → admits_kind (unit_of o.state) (unit_of x.state) ≡ true →
    level (unit_of x.state) < level (unit_of o.state)
falls x o b kind =
    let state = (both (is_state x.state) (not (eqb x.state (skipped x.state))) b).0 in
    rw (kind_level (unit_of o.state) (unit_of x.state) kind) at (state_level x.state state)

-- Open units that are complete are shut for the unit around them.
pub nested_shut : (l : Layout) (inner : List Begun) (o : Begun) (outer : List Begun) → Nested l (inner ++ (o ∷ outer)) → completed inner ≡ true →
    Shut (level (unit_of o.state)) inner
unfolding completed
nested_shut l [] o outer h full = record {}
nested_shut l (x ∷ []) o outer h full = ((both (complete x.state) true full).0, falls x o h.0 h.1, record {})
nested_shut l (x ∷ y ∷ inner) o outer h full =
    let w = both (complete x.state) (completed (y ∷ inner)) full in
    let rest = nested_shut l (y ∷ inner) o outer h.3 w.1 in
    (w.0, omega (arith, falls x y h.0 h.1, rest.1), rest)
