-- With another id in the place of the refused unit's, the check comes to that point too, and gives 7 there exactly if the judge does.
use Rattle.std.proofs.Common.{ℕ, ◌+◌, ◌-◌, ◌≤◌, ◌≡◌, refl, sym, ◌∙◌, Bool, true, false, cond, List, [], ◌∷◌, ◌⊎◌, inl, inr, ◌↔◌, arith, le-leb}
use Rattle.std.proofs.Common.{lt-ltb, eqb, take, drop, length-set}
use Rattle.std.proofs.lemmas.List.{reverse-reverse, take-set-le}
use mathlib.Core.Logic.Iff
use Rattle.cdf_unit_table.specs.Ids.{member, known, ids_end}
use Rattle.cdf_unit_table.specs.States.{admits}
use Rattle.cdf_unit_table.proofs.Bools.{clash}
use Rattle.cdf_unit_prefix.specs.Layout.{Layout, prefix_of}
use Rattle.cdf_unit_prefix.specs.Rules.{head_of, Head, Stop, Prefix}
use Rattle.cdf_unit_data.specs.Claims.{Agree}
use Rattle.cdf_unit_data.specs.Data.{name_bytes}
use Rattle.cdf_unit_judge.specs.Judge.{body_of, found_by, judge_head, judge_by, judge_of, judge_in, Body, Action, Data, Whole, Judged, Fault, Found}
use Rattle.cdf_unit_judge.proofs.Faults.{OfHeader, of_head}
use Rattle.cdf_unit_judge.proofs.Placed.{headed}
use Rattle.cdf_unit_list.specs.Units.{broken, unit_at, next}
use Rattle.cdf_unit_list.specs.Check.{check_of}
use Rattle.cdf_unit_list.specs.declared.Unit.{Unit}
use Rattle.cdf_explain_spec.specs.Why.{open_around, admitted_by, why_of}
use Rattle.cdf_explain_spec.specs.Claims.{Refused, behind, point_of, with_id}
use Rattle.cdf_explain_spec.proofs.Last.{Stopped, stopped, Ends, why_is, check_is}
use Rattle.cdf_explain_spec.proofs.Admitted.{told_seven}
use Rattle.cdf_explain_spec.proofs.Alike.{head_exchanged}
use Rattle.cdf_explain_spec.proofs.Trying.{next_of, Settled, Tried, by_next}
use Rattle.cdf_explain_spec.proofs.Passing.{Passes, passes_all, onwards, seven_given, passes_same}

-- The prefix of what gets 7 to 9 passes 3 to 6.
passed : (l : Layout) (root : Bool) (state : ℕ) (t : List ℕ) (n k : ℕ) → judge_of l root state t ≡ Fault n k → 7 ≤ n →
    (id : ℕ) × (action : ℕ) × (len : ℕ) × (head_of l root t ≡ Prefix id action len)
unfolding judge_in judge_by judge_head
passed l root state t n k e h = go (head_of l root t) refl (of_head l root t) e
  where
    go : (x : Head) → head_of l root t ≡ x → OfHeader x → judge_head name_bytes l (admits root state) t x ≡ Fault n k →
        (id : ℕ) × (action : ℕ) × (len : ℕ) × (head_of l root t ≡ Prefix id action len)
    go (Stop m) q few e = let z : m ≡ n = cc in absurd (omega arith)
    go (Prefix id action len) q few e = (id, action, len, q)

-- The list stops where something else comes than a unit.
stops : (l : Layout) (s : List ℕ) (before : List Unit) (n at : ℕ) → Ends l s before n at → next_of l s before ≡ broken n at
unfolding next
stops l s [] n at e = e
stops l s (u ∷ us) n at e = e.0

module _ (l : Layout) (s : List ℕ) (id : ℕ) (low : 1 ≤ id) (high : id ≤ 14) where
  -- What is claimed, by the units listed.
  abbrev Exchanged : List Unit → Type 0
  Exchanged before =
      (check_of l (with_id l (behind before) id s) ≡ record { number = 7; value = behind before })
      ↔ (member id (admitted_by before (open_around before)) ≡ false)

  may_be : known id ≡ true
  unfolding known
  may_be = rw (le-leb 1 id low, lt-ltb id ids_end (omega arith))

  by_tried : (before : List Unit) → Passes l s before → (t : Tried l before) (n at : ℕ) → 7 ≤ n → (j : Judged) →
      judge_of l t.root t.state (t.part s) ≡ j → unit_at (behind before) j ≡ broken n at → Exchanged before
  unfolding unit_at
  by_tried before p t n at some (Found was action own len state) q e = clash cc
  by_tried before p t n at some (Fault m k) q e =
      let same : m ≡ n = cc in
      let h = passed l t.root t.state (t.part s) m k q (omega arith) in
      let fit = headed l t.root (t.part s) h.0 h.1 h.2 h.3 in
      let i = prefix_of l - 1 in
      let r = with_id l (behind before) id s in
      let part = t.put s i id (omega (arith, fit.low, fit.fit.high)) in
      let head : head_of l t.root (t.part r) ≡ Prefix id h.1 h.2 =
      rw part (head_exchanged l t.root (t.part s) id h.0 h.1 h.2 h.3 may_be) in
      let agree : Agree (behind before) s r =
      (length-set s (behind before + i) id, take-set-le (behind before) s (behind before + i) id (omega arith)) in
      let there = onwards l r (passes_same l s r (behind before) agree p (omega arith)) in
      rw t.ids
      (Iff.trans (seven_given l r before t there)
      (told_seven l t.root (t.part r) id h.1 h.2 head t.state t.may (t.test id (omega arith))))

  by_stop : (before : List Unit) (n at : ℕ) → Passes l s before → next_of l s before ≡ broken n at → 7 ≤ n → n ≤ 9 → Exchanged before
  by_stop before n at p e some few = go (by_next l before)
    where
      go : Settled l before ⊎ Tried l before → Exchanged before
      go (inl w) = absurd (omega (arith, w.ten n at (sym (w.is s) ∙ e)))
      go (inr t) = by_tried before p t n at some _ refl (sym (t.is s) ∙ e)

pub exchanged_id : (l : Layout) (s : List ℕ) → 7 ≤ (check_of l s).number → (check_of l s).number ≤ 9 → (id : ℕ) → 1 ≤ id → id ≤ 14 →
    (check_of l (with_id l (point_of l s) id s) ≡ record { number = 7; value = point_of l s }) ↔ (member id (why_of l s).ids ≡ false)
exchanged_id l s some few id low high = at_end_lem (stopped l s (λ z. omega arith))
  where
    at_end_lem : Stopped l s →
        (check_of l (with_id l (point_of l s) id s) ≡ record { number = 7; value = point_of l s }) ↔ (member id (why_of l s).ids ≡ false)
    at_end_lem w =
        let here : Passes l s w.before = rw (w.units, reverse-reverse) at (passes_all l s) in
        let least : 7 ≤ w.number = rw (check_is l s w) at some in
        let most : w.number ≤ 9 = rw (check_is l s w) at few in
        rw (why_is l s w, w.units, reverse-reverse)
        (by_stop l s id low high w.before w.number w.offset here (stops l s w.before w.number w.offset w.ends) least most)

-- All that is judged but 9 is told at the unit's start,
module _ (l : Layout) (root : Bool) (state : ℕ) (t : List ℕ) (n k : ℕ) (other : n ≡ 9 → ⊥) where
  of_body : (id action len after : ℕ) (c : Body) → found_by l id action len after c ≡ Fault n k → k ≡ 0
  unfolding found_by
  of_body id action len after Action e = cc
  of_body id action len after (Data j) e = absurd (other (let z : ◌≡◌ {A = ℕ} 9 n = cc in sym z))
  of_body id action len after (Whole j) e = clash cc

  of_test : (b : Bool) (id action len after : ℕ) (c : Body) → cond b (Fault 7 0) (found_by l id action len after c) ≡ Fault n k → k ≡ 0
  of_test true id action len after c e = cc
  of_test false id action len after c e = of_body id action len after c e

  of_prefix : (h : Head) → judge_head name_bytes l (admits root state) t h ≡ Fault n k → k ≡ 0
  unfolding judge_head
  of_prefix (Stop m) e = cc
  of_prefix (Prefix id action len) e =
      of_test (eqb (admits root state id) 0) id action len (admits root state id) (body_of id action (take (len - prefix_of l) (drop (prefix_of l) t))) e

  at_start : judge_of l root state t ≡ Fault n k → k ≡ 0
  unfolding judge_in judge_by
  at_start e = of_prefix (head_of l root t) e

-- so the point is the offset, but for 9 and 10.
module _ (l : Layout) (s : List ℕ) (n at : ℕ) (nine : n ≡ 9 → ⊥) (ten : n ≡ 10 → ⊥) where
  start_judged : (pos : ℕ) (root : Bool) (state : ℕ) (t : List ℕ) (j : Judged) → judge_of l root state t ≡ j → unit_at pos j ≡ broken n at → at ≡ pos
  unfolding unit_at
  start_judged pos root state t (Fault m k) q e =
      let number : m ≡ n = cc in
      let place : pos + k ≡ at = cc in
      let zero = at_start l root state t m k (λ x. nine (sym number ∙ x)) q in
      omega arith
  start_judged pos root state t (Found id action own len state') q e = clash cc

  start_next : (before : List Unit) → next_of l s before ≡ broken n at → at ≡ behind before
  start_next before e = go (by_next l before)
    where
      go : Settled l before ⊎ Tried l before → at ≡ behind before
      go (inl w) = absurd (ten (w.ten n at (sym (w.is s) ∙ e)))
      go (inr t) = start_judged (behind before) t.root t.state (t.part s) _ refl (sym (t.is s) ∙ e)

pub stands_there : (l : Layout) (s : List ℕ) → Refused l s → ((check_of l s).number ≡ 9 → ⊥) → ((check_of l s).number ≡ 10 → ⊥) →
    (check_of l s).value ≡ point_of l s
stands_there l s r nine ten = at_end_lem (stopped l s r)
  where
    at_end_lem : Stopped l s → (check_of l s).value ≡ point_of l s
    at_end_lem w =
        let is = check_is l s w in
        rw (is, w.units, reverse-reverse)
        (start_next l s w.number w.offset (rw is at nine) (rw is at ten) w.before
        (stops l s w.before w.number w.offset w.ends))
