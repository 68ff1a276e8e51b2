-- By the table's list the table reader is the first one: at each call, at any place.
use Rattle.std.proofs.Common.{ℕ, ◌-◌, ◌≡◌, refl, sym, ap, ◌∙◌, Bool, true, false, not, cond, List, [], ◌∷◌, arith, leb-true, leb, eqb, ltb, length}
use Rattle.std.proofs.Common.{take, drop}
use Rattle.cdf_unit_table.specs.States.{complete, admits, states_end}
use Rattle.cdf_unit_table.proofs.Bools.{both}
use Rattle.cdf_unit_table.proofs.Rows.{admits_nested}
use Rattle.cdf_unit_prefix.specs.Layout.{Layout}
use Rattle.cdf_unit_prefix.specs.Rules.{head_of, Head, Stop, Prefix}
use Rattle.cdf_unit_data.specs.Data.{name_bytes}
use Rattle.cdf_unit_judge.specs.Judge.{judge_head, judge_by, judge_in, judge_of}
use Rattle.cdf_unit_list.specs.Stack.{incomplete, left, close, entered, with_state, step_in_with, step_in_by, step_in, step_with, step_by, step}
use Rattle.cdf_unit_list.specs.declared.Open.{Open}
use Rattle.cdf_reader_spec.specs.Place.{ReaderPlace, is_empty, fits, every, is_state}
use Rattle.cdf_reader_spec.specs.Calls.{refuse, stepped, first_of, next_of, skip_of}
use Rattle.cdf_reader_spec.proofs.Fitting.{States, fitting}
use Rattle.cdf_reader_spec.proofs.Replying.{first_is, next_tests, next_is, skip_is}
use Rattle.cdf_reader_advance.specs.Advancing.{advanced_with, advanced}
use Rattle.cdf_reader_advance.proofs.Stepped.{advanced_with_is, advanced_is}
use Rattle.cdf_reader_advance.proofs.Steady.{advances}
use Rattle.cdf_table_reader_spec.specs.Table.{looked, entries}
use Rattle.cdf_table_reader_spec.specs.Calls.{table_judge, table_first, table_next, table_skip}
use Rattle.cdf_table_reader_spec.specs.Runs.{Shared, start, next, skip, table_call, reader_call, run_by, table_run, shared_run}
use Rattle.cdf_table_reader_spec.proofs.Looks.{row_is, root_is}
use Rattle.cdf_table_reader_spec.proofs.Asking.{table_tests}

-- Admissions that are the same make the same judge.
module _ (l : Layout) (root : Bool) (f g : ℕ → ℕ) (is : (id : ℕ) → f id ≡ g id) (s : List ℕ) where
  by_head : (h : Head) → judge_head name_bytes l f s h ≡ judge_head name_bytes l g s h
  unfolding judge_head
  by_head (Stop n) = refl
  by_head (Prefix id action len) = rw (is id)

  judge_alike : judge_by name_bytes l root f s ≡ judge_by name_bytes l root g s
  unfolding judge_by
  judge_alike = by_head (head_of l root s)

root_admits : (id : ℕ) → looked entries 0 id ≡ admits true 0 id
unfolding admits
root_admits id = root_is id

root_alike : (l : Layout) (s : List ℕ) → table_judge entries l true 0 s ≡ judge_of l true 0 s
unfolding table_judge judge_in
root_alike l s = judge_alike l true (looked entries 0) (admits true 0) root_admits s

module _ (l : Layout) (s : List ℕ) where
  nested_alike : (state : ℕ) → is_state state ≡ true → (t : List ℕ) → table_judge entries l false state t ≡ judge_of l false state t
  unfolding table_judge judge_in
  nested_alike state is t =
      let low = leb-true 1 state (both (leb 1 state) (ltb state states_end) is).0 in
      judge_alike l false (looked entries state) (admits false state)
      (λ id. row_is state id (λ z. omega arith) ∙ sym (admits_nested state id)) t

  -- So it is of a step from units in states, which those of a place that fits are.
  step_alike : (os : List Open) (pos : ℕ) → States os → step_with (table_judge entries l false) s os pos ≡ step l s os pos
  unfolding step_with step_in_with step_by step_in_by close every
  step_alike [] pos is = refl
  step_alike (o ∷ os) pos is =
      let w = both (is_state o.state) (every (λ o. is_state o.state) os) is in
      go (eqb o.end pos) (complete o.state) (step_alike os pos w.1)
      (ap (entered pos (λ state. with_state o state ∷ os)) (nested_alike o.state w.0 (take (o.end - pos) (drop pos s))))
    where
      go : (a b : Bool) →
          step_in_with (table_judge entries l false) s pos (close os pos) ≡ step_in l s pos (close os pos) →
          step_in_with (table_judge entries l false) s pos (left (o ∷ os)) ≡ step_in l s pos (left (o ∷ os)) →
          step_in_with (table_judge entries l false) s pos (cond a (cond b (close os pos) (incomplete o.start)) (left (o ∷ os)))
          ≡ step_in l s pos (cond a (cond b (close os pos) (incomplete o.start)) (left (o ∷ os)))
      go true true inner here = inner
      go true false inner here = refl
      go false b inner here = here

  advance_alike : (p : ReaderPlace) → States p.units → advanced_with (table_judge entries l false) s p ≡ advanced l s p
  advance_alike p is = advanced_with_is (table_judge entries l false) s p ∙ rw (step_alike p.units p.position is) (sym (advanced_is name_bytes l s p))

  -- Each call.
  pub first_alike : table_first entries l s ≡ first_of l s
  unfolding table_first
  first_alike = rw (root_alike l s) (sym (first_is l s))

  pub next_alike : (p : ReaderPlace) → table_next entries l s p ≡ next_of l s p
  next_alike p = table_tests entries l s p ∙ go (fits l (length s) p) refl ∙ sym (next_tests l s p)
    where
      go : (b : Bool) → fits l (length s) p ≡ b →
          cond (is_empty p) (refuse 11 0 p) (cond (not b) (refuse 2 0 p) (advanced_with (table_judge entries l false) s p))
          ≡ cond (is_empty p) (refuse 11 0 p) (cond (not b) (refuse 2 0 p) (stepped p (step l s p.units p.position)))
      go true e =
          rw (advance_alike p (fitting l (length s) p e).states ∙ advances l s p e ∙ next_is l s p e)
      go false e = refl

  pub skip_alike : (p : ReaderPlace) → table_skip l s p ≡ skip_of l s p
  unfolding table_skip
  skip_alike p = sym (skip_is l s p)

  -- Any call, at any place,
  call_alike : (p : ReaderPlace) (c : Shared) → table_call entries l s p c ≡ reader_call l s p c
  unfolding table_call reader_call
  call_alike p start = first_alike
  call_alike p next = next_alike p
  call_alike p skip = skip_alike p

  -- and so any run.
  by_calls : (p : ReaderPlace) (cs : List Shared) → run_by (table_call entries l s) p cs ≡ run_by (reader_call l s) p cs
  unfolding run_by
  by_calls p [] = refl
  by_calls p (c ∷ cs) = rw (call_alike p c, by_calls (reader_call l s p c).place cs)

  pub run_alike : (p : ReaderPlace) (cs : List Shared) → table_run entries l s p cs ≡ shared_run l s p cs
  unfolding table_run shared_run
  run_alike p cs = by_calls p cs
