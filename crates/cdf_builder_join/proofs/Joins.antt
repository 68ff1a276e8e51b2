-- Looking for the innermost open unit that admits an id, turn by turn, and asking of each whether it is complete.
use Rattle.std.proofs.Common.{ℕ, zero, suc, ◌-◌, ◌≤◌, ◌<◌, ◌≡◌, refl, ap, ◌∙◌, Bool, true, false, cond, not, ◌&&◌, List, [], ◌∷◌, arith, eq-eqb}
use Rattle.std.proofs.Common.{ne_eqb, length}
use mathlib.Core.Bool.{and_assoc, and-true}
use Rattle.std.specs.Option.{unwrap_or}
use Rattle.cdf_open_units.specs.Around.{around}
use Rattle.cdf_open_units.specs.declared.OpenUnits.{OpenUnits}
use Rattle.cdf_unit_table.specs.States.{admit, complete}
use Rattle.cdf_reader_spec.specs.Slots.{held_of}
use Rattle.cdf_builder_spec.specs.Requests.{joining, ending, completed, join_number, advanced}
use Rattle.cdf_builder_spec.specs.Slots.{no_begun, units, begun}
use Rattle.cdf_builder_spec.specs.declared.Begun.{Begun}
use Rattle.cdf_builder_spec.proofs.Joining.{joins_over}
use Rattle.cdf_builder_join.proofs.Parts.{units_first}

passed_by : (id : ℕ) (o : Begun) (os : List Begun) → admit o.state id ≡ 0 →
    (joining id (o ∷ os) ≡ joining id os) × (ending id (o ∷ os) ≡ o ∷ ending id os)
unfolding joining ending
passed_by id o os e = (rw (eq-eqb (admit o.state id) 0 e), rw (eq-eqb (admit o.state id) 0 e))

module _ (id : ℕ) (before : List Begun) (u : OpenUnits Begun) where
  -- What the loop keeps: these are left to ask, and those passed over are all complete or not.
  pub record Going (left : ℕ) (inner : Begun) (full : Bool) : Type 0 where
    pub same : joining id before ≡ joining id (units left inner u.o1 u.o2 u.o3)
    pub ends : completed (ending id before) ≡ (full && completed (ending id (units left inner u.o1 u.o2 u.o3)))

  pub on : {left : ℕ} {inner : Begun} {full : Bool} → Going left inner full → 0 < left → admit inner.state id ≡ 0 →
      (whole : Bool) → whole ≡ complete inner.state → (next : Begun) → next ≡ unwrap_or (around u left) no_begun →
      Going (left - 1) next (full && whole)
  unfolding completed
  on {left} {inner} {full} g some none whole e next is =
      let first = units_first u left inner next some is in
      let w = passed_by id inner (units (left - 1) next u.o1 u.o2 u.o3) none in
      record {
        same = g.same ∙ rw (first, w.0);
        ends = g.ends ∙ rw (first, w.1, e, and_assoc);
      }

  -- The unit that admits the id is then in its next state.
  pub found : {left : ℕ} {inner : Begun} {full : Bool} → Going left inner full → 0 < left → (next : ℕ) → next ≡ admit inner.state id →
      (next ≡ 0 → ⊥) →
      (join_number before id 0 ≡ cond (not full) 10 0)
      × (units left (record { state = next; start = inner.start }) u.o1 u.o2 u.o3 ≡ advanced id (joining id before))
  unfolding join_number completed advanced
  found {left} {inner} {full} g some next is other =
      let rest = unwrap_or (around u left) no_begun in
      let first = units_first u left inner rest some refl in
      let w = joins_over [] inner (units (left - 1) rest u.o1 u.o2 u.o3) id (record {}) (λ z. other (is ∙ z)) in
      let here = g.same ∙ ap (joining id) first ∙ w.0 in (
        rw (here, g.ends, first, w.1, and-true, ne_eqb (length (inner ∷ units (left - 1) rest u.o1 u.o2 u.o3)) 0 (λ z. omega arith)),
        units_first u left _ rest some refl ∙ rw (here, is),
      )

  pub none : {left : ℕ} {inner : Begun} {full : Bool} → Going left inner full → left ≤ 0 →
      (join_number before id 0 ≡ 7) × ([] ≡ advanced id (joining id before))
  unfolding join_number joining advanced held_of
  none {left = zero} g h = (rw g.same, rw g.same)
  none {left = suc k} g h = absurd (omega arith)

-- At first none is passed over.
pub begins : (id : ℕ) (u : OpenUnits Begun) → Going id (begun u) u u.count u.top true
begins id u = record { same = refl; ends = refl }

-- Whether these are complete, by the innermost and the others.
module _ (u : OpenUnits Begun) {left : ℕ} (inner : Begun) (some : 0 < left) where
  pub completed_on : (next : Begun) → next ≡ unwrap_or (around u left) no_begun → complete inner.state ≡ true →
      completed (units left inner u.o1 u.o2 u.o3) ≡ completed (units (left - 1) next u.o1 u.o2 u.o3)
  unfolding completed
  completed_on next is e = rw (units_first u left inner next some is, e)

  pub completed_not : complete inner.state ≡ false → completed (units left inner u.o1 u.o2 u.o3) ≡ false
  unfolding completed
  completed_not e = rw (units_first u left inner (unwrap_or (around u left) no_begun) some refl, e)

pub completed_none : (u : OpenUnits Begun) {left : ℕ} (inner : Begun) → left ≤ 0 → completed (units left inner u.o1 u.o2 u.o3) ≡ true
unfolding completed held_of
completed_none u {left = zero} inner h = refl
completed_none u {left = suc k} inner h = absurd (omega arith)
