-- The loop's invariant is proofs/Spans'.
use Rattle.std.proofs.Common.{ℕ, ◌≡◌, refl, sym, ap, ◌∙◌, List, inl, inr, arith, length, get_or, drop, get_or-drop}
use Rattle.cdf_unit_table.proofs.Parts.{rest}
use Rattle.cdf_rescue.proofs.Units.{none_headed, none_marked, none_whole, some_whole}
use Rattle.cdf_rescue.proofs.Spans.{passed_none, passed_on, passed_all}
use Rattle.cdf_rescue.proofs.next_whole.Goals as goal
use Rattle.cdf_rescue.proofs.next_whole.Goals.{else-s-at-via-then-s-at+then-is_headed+else-is_some}
use Rattle.cdf_rescue.proofs.next_whole.Goals.{else-s-at-via-then-s-at+else-is_headed, else-s-at-via-else-s-at}

pub loop-at-init : goal.loop-at-init
loop-at-init c = passed_none _ _ _ c.requires

pub returns-then-is_some : goal.returns-then-is_some
returns-then-is_some c =
    passed_all _ _ _ _ c.loop-at.invariant
    (inr (some_whole _ _ (simp rest at c.whole_at.ensures.is) (sym c.is_some.ensures ∙ c.if-is_some.true)))

-- The byte at a position is the first of what is left from it on.
front : (s : List ℕ) (at : ℕ) → get_or s at 0 ≡ get_or (drop at s) 0 0
front s at = ap (λ k. get_or s k 0) (omega arith) ∙ sym (get_or-drop at s 0 0)

-- A unit's prefix does not stand here, or the unit is not whole.
pub loop-at-preserved : goal.loop-at-preserved
loop-at-preserved c =
    let here = c.loop-at.at in
    let bytes = c.args.s.now in
    let on = passed_on _ _ _ _ c.loop-at.invariant c.loop-at-test.true in
    elim c.else-s-at.branch [
      | else-s-at-via-then-s-at+then-is_headed+else-is_some w ↦
          on (none_whole _ _ (simp rest at w.whole_at.ensures.is) (sym w.is_some.ensures ∙ w.if-is_some.false))
      | else-s-at-via-then-s-at+else-is_headed w ↦ on (none_headed _ _ (simp rest at (sym w.is_headed.ensures ∙ w.if-is_headed.false)))
      | else-s-at-via-else-s-at w ↦ on (none_marked _ _ (λ z. w.if-s-at.false (front bytes here ∙ z)))
    ]

pub returns : goal.returns
returns c =
    let same : c.loop-at.at ≡ length c.args.s.now = omega (arith, c.loop-at.invariant.high, c.loop-at-test.false) in
    passed_all _ _ _ _ (rw same at c.loop-at.invariant) (inl refl)
