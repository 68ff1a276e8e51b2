-- The unit at the front, by what its prefix and the check tell of it.
use Rattle.std.proofs.Common.{ℕ, ◌≤◌, ◌≡◌, refl, sym, ap, ◌∙◌, Bool, false, true, cond, List, arith, ne_eqb, eqb, ltb, length, get_or}
use Rattle.std.proofs.lemmas.Bool.{false≢true, not-false}
use Rattle.std.specs.Prelude.{Option, Some, None, is_some}
use Rattle.cdf_unit_table.specs.Ids.{er_group}
use Rattle.cdf_unit_table.specs.States.{admit, admits, nothing}
use Rattle.cdf_unit_table.proofs.Rows.{admits_nested}
use Rattle.cdf_unit_prefix.specs.Layout.{Layout, prefix_of, marked}
use Rattle.cdf_unit_prefix.specs.Rules.{head_of, Head, Stop, Prefix}
use Rattle.cdf_unit_judge.specs.Judge.{judge_head, judge_by, judge_in, judge_of, Fault}
use Rattle.cdf_unit_judge.proofs.Placed.{headed}
use Rattle.cdf_unit_judge.proofs.Faults.{told}
use Rattle.cdf_unit_list.specs.Units.{list_by, listing_in}
use Rattle.cdf_unit_list.specs.Check.{Verdict, check_in}
use Rattle.cdf_check.specs.Answers.{checked_of, as_answer, Accepted, Refused}
use Rattle.cdf_check.proofs.Exact.{refused_numbered}
use Rattle.cdf_rescue_spec.specs.Salvage.{whole_at}
use Rattle.cdf_rescue.specs.Parts.{IsWhole, is_headed}

-- A broken rule 3 or 4 is no prefix.
stopped : (short : Bool) → is_headed (cond short (Stop 3) (Stop 4)) ≡ false
stopped true = refl
stopped false = refl

module _ (l : Layout) (s : List ℕ) where
  abbrev state : ℕ
  state = nothing er_group

  none_by : (n : ℕ) → (check_in l state s).number ≡ n → (n ≡ 0 → ⊥) → 0 ≡ whole_at l s
  unfolding whole_at
  none_by n e some = rw (e, ne_eqb n 0 some)

  faulty : {n k : ℕ} → judge_of l false state s ≡ Fault n k → (check_in l state s).number ≡ n
  unfolding check_in list_by
  faulty e = rw e

  none_judged : {n k : ℕ} → judge_of l false state s ≡ Fault n k → 0 ≡ whole_at l s
  none_judged {n} e = none_by n (faulty e) (λ z. let t = told l false s state e in omega (arith, t.low))

  -- Where a prefix breaks a rule, or its unit is not admitted, no unit stands.
  pub none_headed : is_headed (head_of l false s) ≡ false → whole_at l s ≡ 0
  unfolding judge_in judge_by judge_head
  none_headed e = by (head_of l false s) refl e
    where
      by : (h : Head) → head_of l false s ≡ h → is_headed h ≡ false → whole_at l s ≡ 0
      by (Stop n) is none = sym (none_judged {n = n} {k = 0} (rw is))
      by (Prefix id action len) is none =
          let out : eqb (admits false state id) 0 ≡ true = rw (admits_nested state id) (not-false (eqb (admit state id) 0) none) in
          sym (none_judged {n = 7} {k = 0} (rw (is, out)))

  -- Nor does one where the mark's first byte is not there.
  pub none_marked : (get_or s 0 0 ≡ 0xcd → ⊥) → whole_at l s ≡ 0
  unfolding head_of marked
  none_marked other = none_headed (rw (ne_eqb (get_or s 0 0) 0xcd other) (stopped (ltb (length s) (prefix_of l))))

  pub none_checked : (n at : ℕ) → as_answer (Refused n at) ≡ check_in l state s → Refused n at ≡ checked_of (listing_in l state s) → 0 ≡ whole_at l s
  unfolding as_answer listing_in
  none_checked n at p q = none_by n (sym (ap (λ (x : Verdict). x.number) p)) (refused_numbered l s false state n at q)

  module _ {id action len : ℕ} (e : head_of l false s ≡ Prefix id action len) where
    pub whole_within : len ≤ length s
    whole_within = (headed l false s id action len e).fit.high

    pub whole_some : len ≡ 0 → ⊥
    whole_some z = omega (arith, (headed l false s id action len e).low)

    pub whole_checked : (n : ℕ) → as_answer (Accepted n) ≡ check_in l state s → len ≡ whole_at l s
    unfolding whole_at as_answer
    whole_checked n p = (headed l false s id action len e).is_length ∙ rw (← ap (λ (x : Verdict). x.number) p)

-- By whether a unit was told.
pub none_whole : (n : ℕ) (o : Option ℕ) → IsWhole n o → is_some o ≡ false → n ≡ 0
none_whole n None w e = w
none_whole n (Some k) w e = absurd (false≢true (sym e))

pub some_whole : (n : ℕ) (o : Option ℕ) → IsWhole n o → is_some o ≡ true → n ≡ 0 → ⊥
some_whole n None w e = absurd (false≢true e)
some_whole n (Some k) w e = λ z. w.1 (w.0 ∙ z)
