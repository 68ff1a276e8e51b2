-- Open units that lie in one another: what their kinds tell of their states and heights, and the tests of the code as clauses.
use Rattle.std.proofs.Common.{ℕ, suc, ◌+◌, ◌≤◌, ◌≡◌, refl, true, List, [], ◌∷◌, arith, leb, eqb, length}
use Rattle.std.proofs.lemmas.Bool.{false≢true}
use Rattle.cdf_unit_table.specs.States.{unit_of, root_kind, admits_kind}
use Rattle.cdf_unit_table.specs.Heights.{height_in}
use Rattle.cdf_unit_table.proofs.Bools.{both}
use Rattle.cdf_unit_table.proofs.Rows.{none_admits, unit_state}
use Rattle.cdf_unit_table.proofs.Heights.{height_most, kind_lower, state_high}
use Rattle.cdf_unit_prefix.specs.Layout.{Layout, prefix_of}
use Rattle.cdf_unit_list.specs.declared.Open.{Open}
use Rattle.cdf_unit_list.proofs.Entering.{Bounded}
use Rattle.cdf_reader_spec.specs.Place.{nested, every, is_state}
use Rattle.cdf_reader_spec.specs.Tests.{under, chain}
use Rattle.cdf_reader_spec.proofs.Fitting.{Kinds, States, Starts, Ends}

-- A kind that is a root's, or that is admitted, is some unit's.
root_unit : (state : ℕ) → root_kind (unit_of state) ≡ true → is_state state ≡ true
unfolding root_kind
root_unit state e = unit_state state (λ z. absurd (false≢true (rw z at e)))

kind_unit : (unit state : ℕ) → admits_kind unit (unit_of state) ≡ true → is_state state ≡ true
kind_unit unit state e = unit_state state (λ z. absurd (false≢true (rw (none_admits unit (unit_of state) z) at e)))

-- Open units of any form, if they have a state.
module _ {A : Type 0} (state : A → ℕ) where
  abbrev KindsBy : List A → Type 0
  KindsBy os = nested (λ o. root_kind (unit_of (state o))) (λ p o. admits_kind (unit_of (state p)) (unit_of (state o))) os ≡ true

  -- Each is in one of its states.
  states_by : (os : List A) → KindsBy os → every (λ o. is_state (state o)) os ≡ true
  unfolding nested every
  states_by [] k = refl
  states_by (o ∷ []) k = rw (root_unit (state o) k)
  states_by (o ∷ p ∷ os) k =
      let w = both (admits_kind (unit_of (state p)) (unit_of (state o))) _ k in
      rw (kind_unit (unit_of (state p)) (state o) w.0) (states_by (p ∷ os) w.1)

  -- Each is lower than the one outside it, so that there are few.
  low_by : (o : A) (os : List A) → KindsBy (o ∷ os) → height_in (state o) + suc (length os) ≤ 5
  unfolding nested height_in
  low_by o [] k = omega (arith, height_most (unit_of (state o)))
  low_by o (p ∷ os) k =
      let w = both (admits_kind (unit_of (state p)) (unit_of (state o))) _ k in
      omega (arith, kind_lower (unit_of (state p)) (unit_of (state o)) w.0, low_by p os w.1)

  pub few_by : (os : List A) → KindsBy os → length os ≤ 4
  unfolding every
  few_by [] k = omega arith
  few_by (o ∷ os) k =
      let s = both (is_state (state o)) _ (states_by (o ∷ os) k) in
      omega (arith, low_by o os k, state_high (state o) s.0)

-- The reader's.
pub kinds_states : (os : List Open) → Kinds os → States os
kinds_states = states_by (λ o. o.state)

pub at_most_four : (os : List Open) → Kinds os → length os ≤ 4
at_most_four = few_by (λ o. o.state)

pub kinds_bounded : (os : List Open) → Kinds os → Bounded os
unfolding nested
kinds_bounded [] k = record {}
kinds_bounded (o ∷ []) k = (low_by (λ o. o.state) o [] k, record {})
kinds_bounded (o ∷ p ∷ os) k =
    (low_by (λ o. o.state) o (p ∷ os) k, kinds_bounded (p ∷ os) (both (admits_kind (unit_of p.state) (unit_of o.state)) _ k).1)

-- The tests of the code, unit by unit, are the clauses, taken one after the other.
module _ (l : Layout) (n : ℕ) where
  pub chain_clauses : (os : List Open) → chain l n os ≡ true → Kinds os × Starts l os × Ends n os
  unfolding chain nested
  chain_clauses [] e = absurd (false≢true e)
  chain_clauses (o ∷ []) e =
      let w = both (root_kind (unit_of o.state)) _ e in
      let v = both (eqb o.start 0) (eqb o.end n) w.1 in
      (w.0, v.0, v.1)
  chain_clauses (o ∷ p ∷ os) e =
      let x = both (under l p o) _ e in
      let w = both (admits_kind (unit_of p.state) (unit_of o.state)) _ x.0 in
      let v = both (leb (p.start + prefix_of l) o.start) (leb o.end p.end) w.1 in
      let rest = chain_clauses (p ∷ os) x.1 in
      (rw w.0 rest.0, rw v.0 rest.1, rw v.1 rest.2)

  pub clauses_chain : (os : List Open) → Kinds os → Starts l os → Ends n os → chain l n os ≡ true
  unfolding chain nested
  clauses_chain [] k s e = absurd (false≢true k)
  clauses_chain (o ∷ []) k s e = rw (k, s, e)
  clauses_chain (o ∷ p ∷ os) k s e =
      let a = both (admits_kind (unit_of p.state) (unit_of o.state)) _ k in
      let b = both (leb (p.start + prefix_of l) o.start) _ s in
      let c = both (leb o.end p.end) _ e in
      rw (a.0, b.0, c.0) (clauses_chain (p ∷ os) a.1 b.1 c.1)
