-- A look into the table's list: from the list that is made by the rule to the rule at an entry.
use Rattle.std.proofs.Common.{ℕ, zero, suc, ◌+◌, ◌*◌, ◌-◌, ◌/◌, ◌%◌, ◌<◌, ◌≤◌, ◌≡◌, refl, sym, ap, ◌∙◌, Bool, true, false, cond, List, ◌⊎◌, inl, inr}
use Rattle.std.proofs.Common.{arith, suc-add, add-suc, add-zero, ne_eqb, eqb-true, ltb-true, ltb-false, lt-ltb, le-ltb, T, eqb, ltb, get_or}
use Rattle.cdf_unit_table.specs.Ids.{member, stream, er_group, file_group}
use Rattle.cdf_unit_table.specs.States.{rows, admit, root_kind, nothing, unit_of}
use Rattle.cdf_unit_table.proofs.Rows.{all_rows, from_rows, admit_past, admit_none, admit_unknown}
use Rattle.cdf_unit_table.proofs.Tests.{is_true}
use Rattle.cdf_table_reader_spec.specs.Table.{looked, entry_of, entries_from, entries}

entry_at : (k n i : ℕ) → i < n → get_or (entries_from k n) i 0 ≡ entry_of ((k + i) / 14) ((k + i) % 14 + 1)
unfolding entries_from
entry_at k zero i h = absurd (omega arith)
entry_at k (suc n) zero h = rw (add-zero k)
entry_at k (suc n) (suc i) h = entry_at (suc k) n i (omega arith) ∙ rw (suc-add k i, add-suc k i)

look : (table : List ℕ) → table ≡ entries → (state id : ℕ) → state ≤ 30 → 1 ≤ id → id ≤ 14 →
    get_or table (state * 14 + (id - 1)) 0 ≡ entry_of state id
unfolding entries
look table e state id s low high =
    let at = state * 14 + (id - 1) in
    let row : (0 + at) / 14 ≡ state = omega arith in
    let column : (0 + at) % 14 + 1 ≡ id = omega arith in
    rw e (entry_at 0 434 at (omega arith) ∙ rw (row, column))

-- There is no entry past the states,
past : (state id : ℕ) → 30 < state → 0 ≡ entry_of state id
unfolding entry_of
past state id h = rw (ne_eqb state 0 (λ z. omega arith)) (sym (admit_past state id (omega arith)))

-- before the ids,
none : (state id : ℕ) → id < 1 → 0 ≡ entry_of state id
unfolding entry_of root_kind member
none state id h = let z : id ≡ 0 = omega arith in rw z (go (eqb state 0))
  where
    go : (b : Bool) → 0 ≡ cond b 0 (admit state 0)
    go true = refl
    go false = sym (admit_none state)

-- or past them.
unknown : (state id : ℕ) → 14 < id → 0 ≡ entry_of state id
unfolding entry_of root_kind member
unknown state id h =
    rw (ne_eqb id stream (λ z. omega arith), ne_eqb id er_group (λ z. omega arith), ne_eqb id file_group (λ z. omega arith)) (go (eqb state 0))
  where
    go : (b : Bool) → 0 ≡ cond b 0 (admit state id)
    go true = refl
    go false = sym (admit_unknown state id (omega arith))

pub looked_is : (state id : ℕ) → looked entries state id ≡ entry_of state id
unfolding looked
looked_is state id = go (ltb 30 state) (ltb id 1) (ltb 14 id) refl refl refl
  where
    go : (a b c : Bool) → ltb 30 state ≡ a → ltb id 1 ≡ b → ltb 14 id ≡ c →
        cond a 0 (cond b 0 (cond c 0 (get_or entries (state * 14 + (id - 1)) 0))) ≡ entry_of state id
    go true b c d e f = past state id (ltb-true 30 state d)
    go false true c d e f = none state id (ltb-true id 1 e)
    go false false true d e f = unknown state id (ltb-true 14 id f)
    go false false false d e f =
        look entries refl state id (ltb-false 30 state d) (ltb-false id 1 e) (ltb-false 14 id f)

-- What the grammar's rows say, and of a root.
pub row_is : (state id : ℕ) → (state ≡ 0 → ⊥) → looked entries state id ≡ admit state id
unfolding entry_of
row_is state id some = looked_is state id ∙ rw (ne_eqb state 0 some)

pub root_is : (id : ℕ) → looked entries 0 id ≡ cond (root_kind id) (nothing id) 0
unfolding entry_of
root_is id = looked_is 0 id

-- What a unit admits leaves it in one of its own states.
rows_keep : T (all_rows (λ r. eqb (unit_of r.next) (unit_of r.state)) rows)
unfolding unit_of
rows_keep = tt

pub keeps : (state id : ℕ) → (admit state id ≡ 0) ⊎ (unit_of (admit state id) ≡ unit_of state)
unfolding admit
keeps state id =
    from_rows (λ n. (n ≡ 0) ⊎ (unit_of n ≡ unit_of state)) (λ r. eqb (unit_of r.next) (unit_of r.state)) state id (inl refl)
    (λ r t d e. inr (eqb-true (unit_of r.next) (unit_of r.state) (is_true (eqb (unit_of r.next) (unit_of r.state)) t) ∙ ap unit_of d)) rows rows_keep

both_zero : (b : Bool) → ◌≡◌ {A = ℕ} (cond b 0 0) 0
both_zero true = refl
both_zero false = refl

-- A look by the tests of the code, into any list.
module _ (table : List ℕ) (state id : ℕ) where
  pub no_row : 30 < state → 0 ≡ looked table state id
  unfolding looked
  no_row h = rw (lt-ltb 30 state h)

  module _ (row : state ≤ 30) where
    pub before_ids : id < 1 → 0 ≡ looked table state id
    unfolding looked
    before_ids h = rw (le-ltb 30 state row, lt-ltb id 1 h)

    pub past_ids : 1 ≤ id → 14 < id → 0 ≡ looked table state id
    unfolding looked
    past_ids low h = rw (le-ltb 30 state row, le-ltb id 1 low, lt-ltb 14 id h)

    pub at_entry : 1 ≤ id → id ≤ 14 → get_or table (state * 14 + (id - 1)) 0 ≡ looked table state id
    unfolding looked
    at_entry low high = rw (le-ltb 30 state row, le-ltb id 1 low, le-ltb 14 id high)

  -- For another state or id there is no entry.
  pub no_entry : (30 < state) ⊎ ((id < 1) ⊎ (14 < id)) → looked table state id ≡ 0
  unfolding looked
  no_entry (inl h) = rw (lt-ltb 30 state h)
  no_entry (inr (inl h)) = rw (lt-ltb id 1 h) (both_zero (ltb 30 state))
  no_entry (inr (inr h)) = rw (lt-ltb 14 id h) (rw (both_zero (ltb id 1)) (both_zero (ltb 30 state)))
