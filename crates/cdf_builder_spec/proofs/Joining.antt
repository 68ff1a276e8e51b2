-- Which open unit a new one joins, and what a request that is not refused tells.
use Rattle.std.proofs.Common.{ℕ, ◌≡◌, refl, sym, ap, ◌∙◌, Bool, true, false, not, cond, List, [], ◌∷◌, ◌++◌, arith, eq-eqb, ne_eqb, eqb, length}
use Rattle.std.proofs.lemmas.Bool.{false≢true, eqb-false, not-false}
use Rattle.cdf_unit_table.specs.Ids.{known, action_allowed}
use Rattle.cdf_unit_table.specs.States.{admit, complete}
use Rattle.cdf_unit_table.proofs.Bools.{both, past}
use Rattle.cdf_unit_prefix.specs.Layout.{Layout, id_at}
use Rattle.cdf_grammar.specs.Encoding.{Item}
use Rattle.cdf_builder_spec.specs.declared.Begun.{Begun}
use Rattle.cdf_builder_spec.specs.Requests.{Request, unit, group, id_of, joining, ending, completed, join_number}
use Rattle.cdf_builder_spec.specs.Requests.{right_data, accepted_group, refused}

-- The definitions, one case at a time: they stay shut, and the rows in them too.
pub joining_none : (id : ℕ) → joining id [] ≡ []
unfolding joining
joining_none id = refl

pub joining_cons : (id : ℕ) (o : Begun) (os : List Begun) →
    joining id (o ∷ os) ≡ cond (eqb (admit o.state id) 0) (joining id os) (o ∷ os)
unfolding joining
joining_cons id o os = refl

ending_cons : (id : ℕ) (o : Begun) (os : List Begun) →
    ending id (o ∷ os) ≡ cond (eqb (admit o.state id) 0) (o ∷ ending id os) []
unfolding ending
ending_cons id o os = refl

pub joined_tests : (os : List Begun) (id next : ℕ) →
    join_number os id next ≡ cond (eqb (length (joining id os)) 0) 7 (cond (not (completed (ending id os))) 10 next)
unfolding join_number
joined_tests os id next = refl

pub unit_tests : (l : Layout) (os : List Begun) (u : Item) (next : ℕ) →
    refused l os (unit u) next
    ≡ cond (not (known u.id)) 6
    (join_number os u.id (cond (not (action_allowed u.id u.action)) 8 (cond (not (right_data u.id u.text)) 9 next)))
unfolding refused
unit_tests l os u next = refl

pub group_tests : (l : Layout) (os : List Begun) (g : List ℕ) (next : ℕ) →
    refused l os (group g) next ≡ cond (not (accepted_group l g)) 14 (join_number os (id_at l g) next)
unfolding refused
group_tests l os g next = refl

-- An open unit that admits the id, with those around it (`outer`) and those inside it (`inner`), which admit it not and are
-- complete.
pub record Joins (os : List Begun) (id : ℕ) : Type 0 where
  pub inner : List Begun
  pub unit : Begun
  pub outer : List Begun
  pub parts : os ≡ inner ++ (unit ∷ outer)
  pub ends : ending id os ≡ inner
  pub joins : joining id os ≡ unit ∷ outer
  pub admitted : admit unit.state id ≡ 0 → ⊥
  pub full : completed inner ≡ true

found : (os : List Begun) (id : ℕ) → eqb (length (joining id os)) 0 ≡ false → completed (ending id os) ≡ true → Joins os id
unfolding completed
found [] id some full = absurd (false≢true (sym (rw (joining_none id) at some)))
found (o ∷ os) id some full =
    go (eqb (admit o.state id) 0) refl (rw (joining_cons id o os) at some) (rw (ending_cons id o os) at full) (found os id)
  where
    go : (b : Bool) → eqb (admit o.state id) 0 ≡ b → eqb (length (cond b (joining id os) (o ∷ os))) 0 ≡ false →
        completed (cond b (o ∷ ending id os) []) ≡ true →
        (eqb (length (joining id os)) 0 ≡ false → completed (ending id os) ≡ true → Joins os id) → Joins (o ∷ os) id
    go true e some full rest =
        let j = rest some (both (complete o.state) (completed (ending id os)) full).1 in
        record {
          inner = o ∷ j.inner;
          unit = j.unit;
          outer = j.outer;
          parts = ap (λ x. o ∷ x) j.parts;
          ends = rw (ending_cons id o os, e) (ap (λ x. o ∷ x) j.ends);
          joins = rw (joining_cons id o os, e) j.joins;
          admitted = j.admitted;
          full = rw j.ends at full;
        }
    go false e some full rest = record {
      inner = [];
      unit = o;
      outer = os;
      parts = refl;
      ends = rw (ending_cons id o os, e);
      joins = rw (joining_cons id o os, e);
      admitted = eqb-false (admit o.state id) 0 e;
      full = refl;
    }

-- Past the two tests.
passed : (os : List Begun) (id next : ℕ) → join_number os id next ≡ 0 →
    (eqb (length (joining id os)) 0 ≡ false) × (not (completed (ending id os)) ≡ false) × (next ≡ 0)
passed os id next e =
    let a = past (eqb (length (joining id os)) 0) 7 _ (λ z. omega arith) (sym (joined_tests os id next) ∙ e) in
    let b = past (not (completed (ending id os))) 10 next (λ z. omega arith) a.1 in
    (a.0, b.0, b.1)

pub joined_is : (os : List Begun) (id next : ℕ) → join_number os id next ≡ 0 → Joins os id × (next ≡ 0)
joined_is os id next e =
    let w = passed os id next e in
    (found os id w.0 (not-false (completed (ending id os)) w.1), w.2)

-- Once an id is joined, what is asked next decides.
joined_then : (os : List Begun) (id next then : ℕ) → join_number os id next ≡ 0 → join_number os id then ≡ then
joined_then os id next then e =
    let w = passed os id next e in
    rw (joined_tests os id then, w.0, w.1)

module _ (l : Layout) (os : List Begun) where
  pub refused_is : (r : Request) (next : ℕ) → refused l os r next ≡ 0 → Joins os (id_of l r) × (next ≡ 0) × (refused l os r 0 ≡ 0)
  unfolding id_of
  refused_is (unit u) next e =
      let a = past (not (known u.id)) 6 _ (λ z. omega arith) (sym (unit_tests l os u next) ∙ e) in
      let j = joined_is os u.id _ a.1 in
      let b = past (not (action_allowed u.id u.action)) 8 _ (λ z. omega arith) j.1 in
      let c = past (not (right_data u.id u.text)) 9 next (λ z. omega arith) b.1 in
      (j.0, c.1, rw c.1 at e)
  refused_is (group g) next e =
      let a = past (not (accepted_group l g)) 14 _ (λ z. omega arith) (sym (group_tests l os g next) ∙ e) in
      let j = joined_is os (id_at l g) next a.1 in
      (j.0, j.1, rw j.1 at e)

  pub refused_then : (r : Request) (next : ℕ) → refused l os r 0 ≡ 0 → refused l os r next ≡ next
  refused_then (unit u) next e =
      let a = past (not (known u.id)) 6 _ (λ z. omega arith) (sym (unit_tests l os u 0) ∙ e) in
      let b = past (not (action_allowed u.id u.action)) 8 _ (λ z. omega arith) (joined_is os u.id _ a.1).1 in
      let c = past (not (right_data u.id u.text)) 9 0 (λ z. omega arith) b.1 in
      unit_tests l os u next ∙ rw (a.0, b.0, c.0) (joined_then os u.id _ next a.1)
  refused_then (group g) next e =
      let a = past (not (accepted_group l g)) 14 _ (λ z. omega arith) (sym (group_tests l os g 0) ∙ e) in
      group_tests l os g next ∙ rw a.0 (joined_then os (id_at l g) 0 next a.1)

-- The way back: the innermost unit that admits the id is the one that it joins.
abbrev pub NoneAdmits : ℕ → List Begun → Type 0
NoneAdmits id [] = record {}
NoneAdmits id (o ∷ os) = (admit o.state id ≡ 0) × NoneAdmits id os

pub joins_over : (inner : List Begun) (o : Begun) (outer : List Begun) (id : ℕ) → NoneAdmits id inner → (admit o.state id ≡ 0 → ⊥) →
    (joining id (inner ++ (o ∷ outer)) ≡ o ∷ outer) × (ending id (inner ++ (o ∷ outer)) ≡ inner)
joins_over [] o outer id none some =
    let no = ne_eqb (admit o.state id) 0 some in
    (rw (joining_cons id o outer, no), rw (ending_cons id o outer, no))
joins_over (x ∷ inner) o outer id none some =
    let rest = inner ++ (o ∷ outer) in
    let yes = eq-eqb (admit x.state id) 0 none.0 in
    let w = joins_over inner o outer id none.1 some in
    (rw (joining_cons id x rest, yes) w.0, rw (ending_cons id x rest, yes) (ap (λ y. x ∷ y) w.1))
