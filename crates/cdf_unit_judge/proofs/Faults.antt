-- A fault that the judge tells has one of the numbers 3 to 9, and lies within the bytes judged. 9 is told of a nested unit alone, from
-- the end of its prefix to its end.
use Rattle.std.proofs.Common.{ℕ, ◌≤◌, ◌+◌, ◌-◌, ◌≡◌, refl, subst, Bool, false, not, List, arith, ltb, eqb, length, take, drop, length-take}
use Rattle.std.proofs.Common.{length-drop}
use Rattle.std.proofs.lemmas.Bool.{eqb-false}
use Rattle.cdf_unit_table.specs.Ids.{known}
use Rattle.cdf_unit_table.specs.States.{admits}
use Rattle.cdf_unit_data.specs.Data.{NameBytes, name_bytes}
use Rattle.cdf_unit_prefix.specs.Layout.{Layout, prefix_of, marked, length_at, id_at, action_at, length_fits}
use Rattle.cdf_unit_prefix.specs.Rules.{head_of, Head, Stop, Prefix}
use Rattle.cdf_unit_judge.specs.Judge.{body_by, found_by, judge_head, judge_by, judge_in, judge_of, Body, Action, Data, Whole, Judged, Fault, Found}
use Rattle.cdf_unit_table.proofs.Bools.{of_cond}
use Rattle.cdf_unit_judge.proofs.Placed.{headed, fault_fits}
use Rattle.cdf_unit_judge.proofs.Stages.{root_whole}

abbrev pub OfHeader : Head → Type 0
OfHeader (Stop n) = (3 ≤ n) × (n ≤ 6)
OfHeader (Prefix id action len) = record {}

-- Of a fault in the bytes s: its number and its offset.
pub record Told (l : Layout) (root : Bool) (s : List ℕ) (n k : ℕ) : Type 0 where
  pub low : 3 ≤ n
  pub high : n ≤ 9
  pub lies : k ≤ length s
  pub nested : n ≡ 9 → root ≡ false
  pub behind : n ≡ 9 → prefix_of l ≤ k
  pub inside : n ≡ 9 → k ≤ length_at l s

abbrev pub OfJudged : Layout → Bool → List ℕ → Judged → Type 0
OfJudged l root s (Fault n k) = Told l root s n k
OfJudged l root s (Found id action own len state) = record {}

module _ (l : Layout) (root : Bool) (s : List ℕ) where
  pub of_head : OfHeader (head_of l root s)
  unfolding head_of
  of_head =
      of_cond OfHeader (ltb (length s) (prefix_of l)) (Stop 3) _ (λ e. omega arith)
      (λ e. of_cond OfHeader (not (marked l s)) (Stop 4) _ (λ e. omega arith)
      (λ e. of_cond OfHeader (ltb (length_at l s) (prefix_of l)) (Stop 5) _ (λ e. omega arith)
      (λ e. of_cond OfHeader (not (length_fits l root (length s) (length_at l s))) (Stop 5) _ (λ e. omega arith)
      (λ e. of_cond OfHeader (not (known (id_at l s))) (Stop 6) (Prefix (id_at l s) (action_at l s) (length_at l s)) (λ e. omega arith)
      (λ e. record {})))))

  -- Any rule but that of the own data is told at the unit's start.
  at_start : (n : ℕ) → 3 ≤ n → n ≤ 8 → Told l root s n 0
  at_start n low high = record {
    low = low;
    high = omega arith;
    lies = omega arith;
    nested = λ e. absurd (omega arith);
    behind = λ e. absurd (omega arith);
    inside = λ e. absurd (omega arith);
  }

  of_body : (id action len state : ℕ) (c : Body) → ((k : ℕ) → c ≡ Data k → Told l root s 9 (prefix_of l + k)) →
      OfJudged l root s (found_by l id action len state c)
  unfolding found_by
  of_body id action len state Action told = at_start 8 (omega arith) (omega arith)
  of_body id action len state (Data k) told = told k refl
  of_body id action len state (Whole k) told = record {}

  by_head : (w : NameBytes) (state : ℕ) (h : Head) → head_of l root s ≡ h → OfHeader h → OfJudged l root s (judge_head w l (admits root state) s h)
  unfolding judge_head
  by_head w state (Stop n) q p = at_start n p.0 (omega arith)
  by_head w state (Prefix id action len) q p =
      let rest = take (len - prefix_of l) (drop (prefix_of l) s) in
      let fit = headed l root s id action len q in
      let long : length rest ≡ len - prefix_of l = simp (length-take, length-drop) (omega arith) in
      of_cond (OfJudged l root s) (eqb (admits root state id) 0) (Fault 7 0) _ (λ e. at_start 7 (omega arith) (omega arith))
      (λ may. of_body id action len (admits root state id) (body_by w id action rest)
      (λ k e. let few = fault_fits w id action rest k e in record {
        low = omega arith;
        high = omega arith;
        lies = omega arith;
        nested = λ nine. root_whole w root state id action rest (eqb-false _ 0 may) e;
        behind = λ nine. omega arith;
        inside = λ nine. omega (arith, fit.is_length);
      }))

  of_judge : (w : NameBytes) (state : ℕ) → OfJudged l root s (judge_in w l root state s)
  unfolding judge_in judge_by
  of_judge w state = by_head w state (head_of l root s) refl of_head

  pub told_by : (w : NameBytes) (state : ℕ) {n k : ℕ} → judge_in w l root state s ≡ Fault n k → Told l root s n k
  told_by w state e = subst (OfJudged l root s) e (of_judge w state)

  pub told : (state : ℕ) {n k : ℕ} → judge_of l root state s ≡ Fault n k → Told l root s n k
  told = told_by name_bytes

pub offset_lies : (l : Layout) (root : Bool) (state : ℕ) (s : List ℕ) {n k : ℕ} → judge_of l root state s ≡ Fault n k → k ≤ length s
offset_lies l root state s e = (told l root s state e).lies
