-- By any list as the table, that list decides what may come next.
use Rattle.std.proofs.Common.{ℕ, ◌-◌, ◌≡◌, refl, sym, ap, ◌∙◌, Bool, true, false, cond, not, ◌&&◌, true≢false, List, [], ◌∷◌, arith, eqb-true, eqb}
use Rattle.std.proofs.Common.{length, take, drop}
use Rattle.std.proofs.lemmas.Bool.{eqb-false}
use Rattle.cdf_unit_table.specs.States.{complete}
use Rattle.cdf_unit_table.proofs.Bools.{of_cond}
use Rattle.cdf_unit_prefix.specs.Layout.{Layout, prefix_of}
use Rattle.cdf_unit_prefix.specs.Rules.{head_of, Head, Stop, Prefix}
use Rattle.cdf_unit_data.specs.Data.{name_bytes}
use Rattle.cdf_unit_judge.specs.Judge.{body_of, found_by, judge_head, judge_by, Body, Action, Data, Whole, Judged, Fault, Found}
use Rattle.cdf_unit_judge.proofs.Faults.{OfHeader, of_head}
use Rattle.cdf_unit_list.specs.Stack.{incomplete, left, close, opened, entered, with_state, step_in_with, step_with}
use Rattle.cdf_unit_list.specs.declared.Open.{Open}
use Rattle.cdf_unit_list.proofs.Entering.{unit_from}
use Rattle.cdf_reader_spec.specs.Place.{ReaderPlace, is_empty, fits}
use Rattle.cdf_reader_spec.specs.Closing.{unclosed}
use Rattle.cdf_reader_spec.specs.Calls.{Reply, refuse, stepped, empty_place}
use Rattle.cdf_reader_close.proofs.Unclosed.{close_unclosed, stops}
use Rattle.cdf_reader_advance.specs.Advancing.{no_step, has_bytes, has_room, advanced_with}
use Rattle.cdf_reader_advance.proofs.Stepped.{advanced_with_is}
use Rattle.cdf_table_reader_spec.specs.Table.{looked}
use Rattle.cdf_table_reader_spec.specs.Calls.{table_judge, table_first, table_next}
use Rattle.cdf_table_reader_spec.specs.Claims.{Admitted, NoEntry, Unadmitted}
use Rattle.cdf_table_reader_spec.proofs.Asking.{table_tests}

-- What the judge finds has an entry, the state that follows; and it tells 7 where there is none.
module _ (table : List ℕ) (l : Layout) (root : Bool) (state : ℕ) (s : List ℕ) where
  abbrev ByEntry : Judged → Type 0
  ByEntry (Fault n k) = (n ≡ 0 → ⊥) × (n ≡ 7 → NoEntry table l root state s)
  ByEntry (Found id action own len next) = (next ≡ looked table state id) × (next ≡ 0 → ⊥)

  by_body : (id action len : ℕ) → (looked table state id ≡ 0 → ⊥) → (b : Body) → ByEntry (found_by l id action len (looked table state id) b)
  unfolding found_by
  by_body id action len some Action = (λ z. omega arith, λ z. absurd (omega arith))
  by_body id action len some (Data k) = (λ z. omega arith, λ z. absurd (omega arith))
  by_body id action len some (Whole k) = (refl, some)

  by_head : (h : Head) → head_of l root s ≡ h → OfHeader h → ByEntry (judge_head name_bytes l (looked table state) s h)
  unfolding judge_head
  by_head (Stop n) q w = (λ z. omega (arith, w), λ z. absurd (omega (arith, w)))
  by_head (Prefix id action len) q w =
      of_cond ByEntry (eqb (looked table state id) 0) (Fault 7 0) _
      (λ e. (λ z. omega arith, λ z. (id, action, len, q, eqb-true (looked table state id) 0 e)))
      (λ e. by_body id action len (eqb-false (looked table state id) 0 e) (body_of id action (take (len - prefix_of l) (drop (prefix_of l) s))))

  by_entry : ByEntry (table_judge table l root state s)
  unfolding table_judge judge_by
  by_entry = by_head (head_of l root s) refl (of_head l root s)

module _ (table : List ℕ) (l : Layout) (s : List ℕ) where
  module _ (p : ReaderPlace) where
    abbrev Driven : Reply → Type 0
    Driven r = (r.number ≡ 0 → Admitted table p r) × (r.number ≡ 7 → Unadmitted table l s p)

    other : (n at : ℕ) → (n ≡ 0 → ⊥) → (n ≡ 7 → ⊥) → Driven (refuse n at p)
    other n at a b = (λ z. absurd (a z), λ z. absurd (b z))

    -- A unit judged in the innermost that is left open.
    module _ (o : Open) (os : List Open) (is : unclosed p.units p.position ≡ o ∷ os) where
      abbrev Rest : List ℕ
      Rest = take (o.end - p.position) (drop p.position s)

      by_judge : (j : Judged) → ByEntry table l false o.state Rest j →
          Driven (stepped p (entered p.position (λ state. with_state o state ∷ os) j))
      unfolding stepped entered
      by_judge (Fault n k) w = (λ z. absurd (w.0 z), λ z. (o, os, is, w.1 z))
      by_judge (Found id action own len next) w =
          let u = unit_from p.position id action own len in (
            λ z. (o, os, is, λ none. w.1 (w.0 ∙ none), ap (λ n. opened u (with_state o n ∷ os)) w.0),
            λ z. absurd (omega arith),
          )

    by_left : (os : List Open) → unclosed p.units p.position ≡ os →
        Driven (stepped p (step_in_with (table_judge table l false) s p.position (close os p.position)))
    unfolding stepped step_in_with close
    by_left [] is = other 1 0 (λ z. omega arith) (λ z. omega arith)
    by_left (o ∷ os) is = go (eqb o.end p.position) refl (complete o.state) refl
      where
        go : (a : Bool) → eqb o.end p.position ≡ a → (b : Bool) → complete o.state ≡ b →
            Driven (stepped p (step_in_with (table_judge table l false) s p.position
            (cond a (cond b (close os p.position) (incomplete o.start)) (left (o ∷ os)))))
        go true e true c = absurd (true≢false (sym c ∙ stops p.position p.units o os is (eqb-true o.end p.position e)))
        go true e false c = other 10 o.start (λ z. omega arith) (λ z. omega arith)
        go false e b c = by_judge o os is (table_judge table l false o.state (Rest o os is)) (by_entry table l false o.state (Rest o os is))

    by_step : Driven (advanced_with (table_judge table l false) s p)
    unfolding step_with
    by_step =
        let judge = table_judge table l false in
        rw (advanced_with_is judge s p)
        (of_cond Driven (has_bytes (length s) p.position (unclosed p.units p.position) && has_room p (step_with judge s p.units p.position))
        _ _ (λ e. rw (close_unclosed p.position p.units) (by_left (unclosed p.units p.position) refl))
        (λ e. other no_step 0 (λ z. omega arith) (λ z. omega arith)))

    pub by_next : Driven (table_next table l s p)
    by_next =
        rw (table_tests table l s p)
        (of_cond Driven (is_empty p) _ _ (λ e. other 11 0 (λ z. omega arith) (λ z. omega arith))
        (λ e. of_cond Driven (not (fits l (length s) p)) _ _ (λ e. other 2 0 (λ z. omega arith) (λ z. omega arith)) (λ e. by_step)))

  abbrev Begun : Reply → Type 0
  Begun r = (r.number ≡ 0 → looked table 0 r.handed.unit.id ≡ 0 → ⊥) × (r.number ≡ 7 → NoEntry table l true 0 s)

  begun : (j : Judged) → ByEntry table l true 0 s j → Begun (stepped empty_place (entered 0 (λ state. []) j))
  unfolding stepped entered
  begun (Fault n k) w = (λ z. absurd (w.0 z), w.1)
  begun (Found id action own len next) w = (λ z none. w.1 (w.0 ∙ none), λ z. absurd (omega arith))

  pub by_first : Begun (table_first table l s)
  unfolding table_first
  by_first = begun (table_judge table l true 0 s) (by_entry table l true 0 s)
