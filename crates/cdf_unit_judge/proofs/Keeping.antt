-- What a judge finds lies in the bytes judged, by any admission.
use Rattle.std.proofs.Common.{ℕ, ◌-◌, ◌≤◌, ◌≡◌, refl, Bool, List, arith, eqb, length, take, drop, length-take, length-drop}
use Rattle.cdf_unit_table.specs.States.{admits}
use Rattle.cdf_unit_table.proofs.Bools.{of_cond}
use Rattle.cdf_unit_prefix.specs.Layout.{Layout, prefix_of}
use Rattle.cdf_unit_prefix.specs.Rules.{head_of, Head, Stop, Prefix}
use Rattle.cdf_unit_data.specs.Data.{NameBytes}
use Rattle.cdf_unit_judge.specs.Judge.{body_by, found_by, judge_head, judge_by, judge_in, Body, Action, Data, Whole, Judged, Fault, Found}
use Rattle.cdf_unit_judge.specs.Keeping.{Lies, Keeps}
use Rattle.cdf_unit_judge.proofs.Placed.{headed, body_fits, fault_fits}

module _ (w : NameBytes) (l : Layout) (root : Bool) (admitted : ℕ → ℕ) (s : List ℕ) where
  of_body : (id action len next : ℕ) → prefix_of l ≤ len → len ≤ length s → (c : Body) →
      body_by w id action (take (len - prefix_of l) (drop (prefix_of l) s)) ≡ c → Lies (length s) (found_by l id action len next c)
  unfolding found_by
  of_body id action len next low high Action e = omega arith
  of_body id action len next low high (Data k) e =
      let rest = take (len - prefix_of l) (drop (prefix_of l) s) in
      let few = fault_fits w id action rest k e in
      let long : length rest ≡ len - prefix_of l = simp (length-take, length-drop) (omega arith) in
      omega arith
  of_body id action len next low high (Whole k) e =
      let rest = take (len - prefix_of l) (drop (prefix_of l) s) in
      let few = body_fits w id action rest k e in
      let long : length rest ≡ len - prefix_of l = simp (length-take, length-drop) (omega arith) in
      (omega arith, high)

  of_head : (h : Head) → head_of l root s ≡ h → Lies (length s) (judge_head w l admitted s h)
  unfolding judge_head
  of_head (Stop n) q = omega arith
  of_head (Prefix id action len) q =
      let fit = headed l root s id action len q in
      of_cond (Lies (length s)) (eqb (admitted id) 0) (Fault 7 0) _ (λ e. omega arith)
      (λ e. of_body id action len (admitted id) fit.low fit.fit.high (body_by w id action (take (len - prefix_of l) (drop (prefix_of l) s))) refl)

  pub judged_lies : Lies (length s) (judge_by w l root admitted s)
  unfolding judge_by
  judged_lies = of_head (head_of l root s) refl

-- So it is where the rows admit.
pub in_keeps : (w : NameBytes) (l : Layout) (root : Bool) → Keeps (judge_in w l root)
unfolding judge_in
in_keeps w l root state s = judged_lies w l root (admits root state) s
