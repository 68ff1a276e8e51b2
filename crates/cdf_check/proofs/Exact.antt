-- The cases of an answer: what the recursive check gives is the unit list's, in document 01's numbers, and 'accepted' is said
-- exactly of the streams of the published grammar.
use Rattle.std.proofs.Common.{ℕ, suc, ◌<◌, ◌≡◌, refl, sym, ap, ◌∙◌, Bool, true, false, List, [], ◌∷◌, ◌↔◌, arith, length, get_or}
use Rattle.cdf_unit_table.proofs.Bools.{clash}
use Rattle.cdf_unit_prefix.specs.Layout.{Layout, layout_of}
use Rattle.cdf_unit_prefix.specs.declared.Edition.{Edition}
use Rattle.cdf_unit_judge.specs.Judge.{judge_of, Judged}
use Rattle.cdf_unit_list.specs.Units.{End, unfinished, ended, fault, list_by, listing, listing_in}
use Rattle.cdf_unit_list.specs.Check.{Verdict, check_of, check_in}
use Rattle.cdf_unit_list.proofs.Numbered.{numbered}
use Rattle.cdf_grammar.specs.Trees.{Forest, units}
use Rattle.cdf_grammar.specs.Encoding.{Bytes, Stream}
use Rattle.cdf_grammar.proofs.Proved.{proved}
use Rattle.std.specs.Prelude.{Result, Ok, Err}
use Rattle.cdf_refusal.specs.declared.Fault.{Fault}
use Rattle.cdf_check.specs.Answers.{Checked, Accepted, Refused, checked, checked_by, checked_of, as_answer}
use Rattle.cdf_check.specs.Walk.{front}
use Rattle.cdf_check.proofs.Same.{same, answer_same}

-- A slice's elements are bytes.
pub bytes_of : (s : List ℕ) → ((i : ℕ) → get_or s i 0 < 256) → Bytes s
bytes_of [] h = record {}
bytes_of (b ∷ s) h = (h 0, bytes_of s (λ i. h (suc i)))

-- Of the answer r for a unit at the front that was judged j.
module _ (l : Layout) (s : List ℕ) (j : Judged) (r : Checked) (q : r ≡ front l s j) where
  pub root_is : j ≡ judge_of l true 0 s → (as_answer r ≡ check_of l s) × (r ≡ checked_of (listing l s))
  unfolding check_of listing
  root_is e = let w : r ≡ front l s (judge_of l true 0 s) = rw (← e) q in (ap as_answer w ∙ answer_same l true 0 s, w ∙ same l true 0 s)

  pub nested_is : (state : ℕ) → j ≡ judge_of l false state s → (as_answer r ≡ check_in l state s) × (r ≡ checked_of (listing_in l state s))
  unfolding check_in listing_in
  nested_is state e =
      let w : r ≡ front l s (judge_of l false state s) = rw (← e) q in
      (ap as_answer w ∙ answer_same l false state s, w ∙ same l false state s)

-- No refusal has the number 0.
pub refused_numbered : (l : Layout) (s : List ℕ) (root : Bool) (state k at : ℕ) →
    Refused k at ≡ checked_of (list_by l s (judge_of l root state s)) → k ≡ 0 → ⊥
unfolding checked_of
refused_numbered l s root state k at q z = go (list_by l s (judge_of l root state s)).end refl q
  where
    go : (x : End) → (list_by l s (judge_of l root state s)).end ≡ x →
        Refused k at ≡ checked_by (length (list_by l s (judge_of l root state s)).units) x → ⊥
    go unfinished y f = let g : k ≡ 99 = cc in omega arith
    go ended y f = clash cc
    go (fault n i) y f = let g : k ≡ n = cc in omega (arith, numbered l s root state y)

module _ (e : Edition) (s : List ℕ) (b : Bytes s) where
  module _ (n : ℕ) where
    -- The number and value of an answer for a stream.
    counted : (t : Forest) → Stream (layout_of e) s t → check_of (layout_of e) s ≡ record { number = 0; value = units t }
    counted t w = (proved.streams e).counted s t w

    pub exact : (r : Checked) → (as_answer r ≡ check_of (layout_of e) s) × (r ≡ checked_of (listing (layout_of e) s)) →
        (r ≡ Accepted n) ↔ ((t : Forest) × Stream (layout_of e) s t × (units t ≡ n))
    unfolding as_answer listing
    exact (Accepted m) (p, q) = (
      λ a.
          let same_count : m ≡ n = cc in
          let w = ((proved.streams e).exactly s b).0 (sym (ap (λ (x : Verdict). x.number) p)) in
          (w.0, w.1, sym (ap (λ (x : Verdict). x.value) (p ∙ counted w.0 w.1)) ∙ same_count),
      λ w. ap Accepted (ap (λ (x : Verdict). x.value) (p ∙ counted w.0 w.1) ∙ w.2),
    )
    exact (Refused k at) (p, q) = (
      λ a. clash cc,
      λ w. absurd (refused_numbered (layout_of e) s true 0 k at q (ap (λ (x : Verdict). x.number) (p ∙ counted w.0 w.1))),
    )

-- An answer of the code is Ok exactly where it says 'accepted'.
pub accepted_iff : (r : Result ℕ Fault) (n : ℕ) {X : Type 0} → (checked r ≡ Accepted n) ↔ X → (r ≡ Ok n) ↔ X
accepted_iff r n w = (λ e. w.0 (ap checked e), λ x. back r (w.1 x))
  where
    back : (r : Result ℕ Fault) → checked r ≡ Accepted n → r ≡ Ok n
    back (Ok m) e = let same : m ≡ n = cc in ap Ok same
    back (Err f) e = clash cc
