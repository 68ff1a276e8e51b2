-- The units of a stack that fits, by their states.
use Rattle.std.proofs.Common.{ℕ, suc, ◌≤◌, ◌≡◌, refl, ap, ◌∙◌, Bool, true, false, not, cond, ◌&&◌, ◌||◌, List, [], ◌∷◌, map, arith, leb-true}
use Rattle.std.proofs.Common.{ltb-true, ne_eqb, eqb, leb, ltb, ltb→lt, length}
use Rattle.cdf_unit_table.specs.Ids.{ids_end}
use Rattle.cdf_unit_table.specs.States.{opens, admit, unit_of, complete, states_end}
use Rattle.cdf_unit_table.specs.Heights.{height_in, height}
use Rattle.cdf_unit_table.specs.Tables.{those}
use Rattle.cdf_unit_table.proofs.Bools.{both, of_cond, clash}
use Rattle.cdf_unit_table.proofs.Heights.{admit_lower, opens_lower}
use Rattle.cdf_unit_table.proofs.Tests.{below_at}
use Rattle.cdf_unit_list.specs.Units.{state_from, state_of, inside}
use Rattle.cdf_unit_list.specs.Stack.{incomplete, left, close}
use Rattle.cdf_unit_list.specs.declared.Unit.{Unit}
use Rattle.cdf_unit_list.specs.declared.Open.{Open}
use Rattle.cdf_unit_list.proofs.StatesListed.{open_of}
use Rattle.cdf_reader_spec.specs.Closing.{unclosed}
use Rattle.cdf_reader_spec.specs.Place.{every, is_state}
use Rattle.cdf_reader_spec.proofs.Fitting.{States}
use Rattle.cdf_explain_spec.specs.Claims.{Each}

-- What admits something is a state,
none_first : (c : ℕ) → (admit 0 c ≡ 0 → ⊥) → ⊥
unfolding height_in height unit_of
none_first c some = omega (arith, (admit_lower 0 c some).below)

-- and what it leads to is of the same unit.
state_unit : (id : ℕ) (cs : List ℕ) → opens id ≡ true → (state_from id cs ≡ 0 → ⊥) → unit_of (state_from id cs) ≡ id
unfolding state_from
state_unit id [] o some = (opens_lower id o).own
state_unit id (c ∷ cs) o some =
    (admit_lower (state_from id cs) c some).stays ∙ state_unit id cs o (λ z. none_first c (rw z at some))

-- The ids are those of the states.
pub same_ids : (us ws : List Unit) → Each (λ w. opens w.id ≡ true) ws → States (map (open_of us) ws) →
    map (λ o. unit_of o.state) (map (open_of us) ws) ≡ map (λ w. w.id) ws
unfolding every state_of
same_ids us [] o h = refl
same_ids us (w ∷ ws) o h =
    let e = both (is_state (state_of us w)) _ h in
    let some = leb-true 1 (state_of us w) (both (leb 1 (state_of us w)) (ltb (state_of us w) states_end) e.0).0 in
    rw (state_unit w.id (inside w.start us) o.0 (λ z. omega arith), same_ids us ws o.1 e.1)

-- Closing leaves states, and no more of them.
pub unclosed_states : (os : List Open) (pos : ℕ) → States os → States (unclosed os pos)
unfolding unclosed every
unclosed_states [] pos h = h
unclosed_states (o ∷ os) pos h =
    of_cond States (eqb o.end pos && complete o.state) (unclosed os pos) (o ∷ os)
    (λ e. unclosed_states os pos (both (is_state o.state) _ h).1) (λ e. h)

pub unclosed_few : (os : List Open) (pos : ℕ) → length (unclosed os pos) ≤ length os
unfolding unclosed
unclosed_few [] pos = omega arith
unclosed_few (o ∷ os) pos =
    of_cond (λ (x : List Open). length x ≤ suc (length os)) (eqb o.end pos && complete o.state) (unclosed os pos) (o ∷ os)
    (λ e. omega (arith, unclosed_few os pos)) (λ e. omega arith)

-- Where closing stops at an incomplete unit, that one is the innermost that it leaves.
pub record Lacks (os : List Open) : Type 0 where
  pub inner : Open
  pub outer : List Open
  pub is : os ≡ inner ∷ outer
  pub lacks : complete inner.state ≡ false

pub lacking : (os : List Open) (pos at : ℕ) → close os pos ≡ incomplete at → Lacks (unclosed os pos)
unfolding close unclosed
lacking [] pos at e = clash cc
lacking (o ∷ os) pos at e = go (eqb o.end pos) (complete o.state) refl e (lacking os pos at)
  where
    go : (a b : Bool) → complete o.state ≡ b → cond a (cond b (close os pos) (incomplete o.start)) (left (o ∷ os)) ≡ incomplete at →
        (close os pos ≡ incomplete at → Lacks (unclosed os pos)) → Lacks (cond (a && b) (unclosed os pos) (o ∷ os))
    go true true y e more = more e
    go true false y e more = record { inner = o; outer = os; is = refl; lacks = y }
    go false b y e more = clash cc

-- An incomplete unit admits something, by one test of the states.
abbrev pub admitted_in : ℕ → List ℕ
admitted_in state = those (λ id. not (eqb (admit state id) 0)) ids_end

pub incomplete_admits : (state : ℕ) → is_state state ≡ true → complete state ≡ false → admitted_in state ≡ [] → ⊥
unfolding complete those admit
incomplete_admits state h lacks none =
    let w = both (leb 1 state) (ltb state states_end) h in
    let t =
    below_at (λ k. eqb k 0 || (complete k || ltb 0 (length (admitted_in k)))) states_end tt state (ltb-true state states_end w.1) in
    let some = leb-true 1 state w.0 in
    let empty = ap length none in
    omega (arith, ltb→lt 0 (length (admitted_in state)) (rw (ne_eqb state 0 (λ z. omega arith), lacks) at t))
