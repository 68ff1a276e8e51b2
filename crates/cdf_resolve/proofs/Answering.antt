-- The answer, stage by stage.
use Rattle.std.proofs.Common.{ℕ, ◌+◌, ◌≤◌, ◌≡◌, refl, sym, ap, ◌∙◌, true, false, List, arith, eq-eqb, ne_eqb, length}
use Rattle.std.proofs.lemmas.List.Edits.{sets-eq}
use Rattle.cdf_unit_prefix.specs.Layout.{Layout}
use Rattle.cdf_unit_list.specs.Units.{listing}
use Rattle.cdf_unit_list.specs.Check.{Verdict, check_of}
use Rattle.cdf_grammar.specs.Claims.{Accepted}
use Rattle.cdf_check.specs.Answers.{as_answer, checked_of, Checked}
use Rattle.cdf_check.proofs.Exact.{refused_numbered}
use Rattle.cdf_lookup_spec.specs.Find.{is_group}
use Rattle.cdf_lookup_spec.proofs.Choosing.{check_numbers}
use Rattle.cdf_resolve_spec.specs.Resolve.{Resolved, refusal, ranks_of, resolved_of, list_after}
use Rattle.cdf_resolve_spec.specs.Pass.{told_by}
use Rattle.cdf_resolve_spec.specs.declared.Tally.{Tally}
use Rattle.cdf_resolve_spec.specs.declared.Worst.{Worst}
use Rattle.cdf_resolve_spec.specs.declared.Worst.TheVariants.{Fine, Lacking, Doubled, Crowded}
use Rattle.cdf_resolve_spec.proofs.Claiming.{zero_told}
use Rattle.cdf_resolve_spec.proofs.Proved.{proved as claims}
use Rattle.cdf_resolve.specs.Holding.{Passed}

module _ (l : Layout) (s list : List ℕ) where
  abbrev Answers : Resolved → List ℕ → Type 0
  Answers r after = (r ≡ resolved_of l s (length list)) × (after ≡ list_after l s list)

  pub by_refusal : (n at : ℕ) → resolved_of l s (length list) ≡ refusal n at → (n ≡ 0 → ⊥) → (r : Resolved) → r ≡ refusal n at → Answers r list
  unfolding list_after
  by_refusal n at e some r f =
      (f ∙ sym e, rw (ne_eqb (resolved_of l s (length list)).number 0 (λ z. some (sym (ap (λ (x : Resolved). x.number) e) ∙ z))))

  -- What the check answers,
  module _ (c : Checked) (answer : as_answer c ≡ check_of l s) where
    pub accepts : (n : ℕ) → c ≡ Checked.Accepted n → Accepted l s
    unfolding as_answer
    accepts n e = let w : record { number = 0; value = n } ≡ check_of l s = rw e at answer in sym (ap (λ (v : Verdict). v.number) w)

    module _ (is : c ≡ checked_of (listing l s)) (n at : ℕ) (e : c ≡ Checked.Refused n at) where
      told : record { number = n; value = at } ≡ check_of l s
      unfolding as_answer
      told = rw e at answer

      some : n ≡ 0 → ⊥
      unfolding listing
      some = refused_numbered l s true 0 n at (sym e ∙ is)

      pub numbered : (3 ≤ n) × (n ≤ 10)
      numbered =
          let number = ap (λ (v : Verdict). v.number) told in
          rw number (check_numbers l s (λ z. some (number ∙ z)))

      pub by_check : (r : Resolved) → r ≡ refusal n at → Answers r list
      by_check r f =
          let number = ap (λ (v : Verdict). v.number) told in
          let value = ap (λ (v : Verdict). v.value) told in
          by_refusal n at (claims.checked l s (length list) (λ z. some (number ∙ z)) ∙ rw (← number, ← value)) some r f

  -- and then the root.
  pub refused_root : Accepted l s → is_group (listing l s).units ≡ false → resolved_of l s (length list) ≡ refusal 7 0
  unfolding resolved_of
  refused_root a g = rw (eq-eqb (check_of l s).number 0 a, g)

  -- A tally that tells 0 has met nothing that is refused.
  fine : (w : Worst) (count room : ℕ) → (told_by w count room).number ≡ 0 → w ≡ Fine
  unfolding told_by
  fine Fine count room e = refl
  fine (Lacking x) count room e = absurd (omega arith)
  fine (Doubled x) count room e = absurd (omega arith)
  fine Crowded count room e = absurd (omega arith)

  module _ (t : Tally) (r : Resolved) (told : r ≡ told_by t.worst t.count (length list))
      (answer : (room : ℕ) → resolved_of l s room ≡ told_by t.worst t.count room) where
    is : r ≡ resolved_of l s (length list)
    is = told ∙ sym (answer (length list))

    pub by_first : (r.number ≡ 0 → ⊥) → Answers r list
    unfolding list_after
    by_first n = (is, rw (ne_eqb (resolved_of l s (length list)).number 0 (λ z. n (ap (λ (x : Resolved). x.number) is ∙ z))))

    pub by_second : r.number ≡ 0 → (q : Tally) (after : List ℕ) → Passed l s list q after → Answers r after
    unfolding list_after
    by_second z q after w =
        let zero : (resolved_of l s (length list)).number ≡ 0 = sym (ap (λ (x : Resolved). x.number) is) ∙ z in
        let short = room_for zero in (
          is,
          w.ranks (fine q.worst q.count (length list) (sym (ap (λ (x : Resolved). x.number) (w.answer (length list))) ∙ zero))
              ∙ sets-eq (ranks_of l s) list 0 short
              ∙ rw (eq-eqb (resolved_of l s (length list)).number 0 zero, none_before),
        )
      where
        none_before : 0 + length (ranks_of l s) ≡ length (ranks_of l s)
        none_before = omega arith

        room_for : (resolved_of l s (length list)).number ≡ 0 → 0 + length (ranks_of l s) ≤ length list
        room_for e = omega (arith, (zero_told l s (length list) e).2)
