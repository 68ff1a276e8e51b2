-- A list, one request after the other: all are taken, or it stops at the first that is not.
use Rattle.std.proofs.Common.{ℕ, suc, ◌+◌, ◌≡◌, refl, sym, ap, ◌∙◌, Bool, true, false, List, [], ◌∷◌, ◌++◌, map, ◌⊎◌, inl, inr, arith, eqb-true, eqb}
use Rattle.std.proofs.Common.{length}
use Rattle.std.proofs.lemmas.Bool.{eqb-false}
use Rattle.cdf_unit_prefix.specs.Layout.{Layout}
use Rattle.cdf_builder_spec.specs.Requests.{Request}
use Rattle.cdf_builder_spec.specs.Calls.{Decision, Reply}
use Rattle.cdf_builder_runs.specs.Runs.{answer, run, AllDone}
use Rattle.cdf_builder_runs.proofs.Answers.{Fit, first_done}
use Rattle.cdf_batch_spec.specs.declared.UnitRequest.{UnitRequest}
use Rattle.cdf_batch_spec.specs.Asking.{bounded, with, asked}
use Rattle.cdf_batch_spec.specs.Batches.{Told}
use Rattle.cdf_batch_spec.specs.Refusing.{AllBounded, Early, RefusesGood, RefusesEarly, RefusesNine}
use Rattle.cdf_batch_spec.proofs.Staged.{Other, unbounded_other, with_other, either}
use Rattle.cdf_batch_spec.proofs.Judging.{refused_none, told_after, judged_after, judged_good, judged_bad, judged_done, goes_on, stops}

module _ (l : Layout) (text : List ℕ) where
  -- The single calls after `a`.
  abbrev pub calls : List UnitRequest → List Request
  calls rs = map (asked text) rs

  -- All are taken: what is told is 0.
  pub record Through (a : Reply) (rs : List UnitRequest) (t : Told) : Type 0 where
    pub bounds : AllBounded text rs
    pub done : AllDone l a (calls rs)
    pub told : t ≡ record { number = 0; rank = 0 }

  -- It stops at the first that is refused.
  pub record Stopped (a : Reply) (k : ℕ) (rs : List UnitRequest) (t : Told) : Type 0 where
    pub before : List UnitRequest
    pub refused : UnitRequest
    pub behind : List UnitRequest
    pub parts : rs ≡ before ++ (refused ∷ behind)
    pub bounds : AllBounded text before
    pub done : AllDone l a (calls before)
    pub some : t.number ≡ 0 → ⊥
    pub told : t ≡ record { number = (judged_after l text (run l a (calls before)) refused).number; rank = k + length before }

  abbrev Ends : Reply → ℕ → List UnitRequest → Type 0
  Ends a k rs = Through a rs (told_after l text a k rs) ⊎ Stopped a k rs (told_after l text a k rs)

  module _ (a : Reply) (z : a.number ≡ 0) (k : ℕ) (r : UnitRequest) (rs : List UnitRequest) where
    at_once : ((judged_after l text a r).number ≡ 0 → ⊥) → Ends a k (r ∷ rs)
    unfolding run
    at_once some =
        let same : k + 0 ≡ k = omega arith in
        inr (record {
          before = [];
          refused = r;
          behind = rs;
          parts = refl;
          bounds = record {};
          done = z;
          some = λ e. some (sym (ap (λ (t : Told). t.number) (stops l text a r k rs some)) ∙ e);
          told = rw same (stops l text a r k rs some);
        })

    further : bounded text r ≡ true → (answer l a (asked text r)).number ≡ 0 → Ends (answer l a (asked text r)) (suc k) rs → Ends a k (r ∷ rs)
    unfolding run
    further e d (inl t) = inl (record { bounds = (e, t.bounds); done = (z, t.done); told = goes_on l text a r k rs e d ∙ t.told })
    further e d (inr t) =
        let same : k + suc (length t.before) ≡ suc k + length t.before = omega arith in
        inr (record {
          before = r ∷ t.before;
          refused = t.refused;
          behind = t.behind;
          parts = ap (λ (xs : List UnitRequest). r ∷ xs) t.parts;
          bounds = (e, t.bounds);
          done = (z, t.done);
          some = λ n. t.some (sym (ap (λ (x : Told). x.number) (goes_on l text a r k rs e d)) ∙ n);
          told = goes_on l text a r k rs e d ∙ rw same t.told;
        })

    by_first : (b : Bool) → eqb (judged_after l text a r).number 0 ≡ b →
        ((answer l a (asked text r)).number ≡ 0 → Ends (answer l a (asked text r)) (suc k) rs) → Ends a k (r ∷ rs)
    by_first true e rest =
        let d = judged_done l text a r (eqb-true (judged_after l text a r).number 0 e) in
        further d.0 d.1 (rest d.1)
    by_first false e rest = at_once (eqb-false (judged_after l text a r).number 0 e)

  pub walk : (a : Reply) → a.number ≡ 0 → (rs : List UnitRequest) (k : ℕ) → Ends a k rs
  walk a z [] k = inl (record { bounds = record {}; done = z; told = refused_none l (length a.buffer) text a.place k })
  walk a z (r ∷ rs) k =
      by_first a z k r rs (eqb (judged_after l text a r).number 0) refl (λ w. walk (answer l a (asked text r)) w rs (suc k))

  -- A list that is taken is told 0.
  pub all_taken : (a : Reply) (rs : List UnitRequest) (k : ℕ) → AllBounded text rs → AllDone l a (calls rs) →
      told_after l text a k rs ≡ record { number = 0; rank = 0 }
  all_taken a [] k b d = refused_none l (length a.buffer) text a.place k
  all_taken a (r ∷ rs) k b d =
      goes_on l text a r k rs b.0 (first_done l (answer l a (asked text r)) (calls rs) d.1)
      ∙ all_taken (answer l a (asked text r)) rs (suc k) b.1 d.1

  -- Of one request after calls that are done.
  module _ (a : Reply) (r : UnitRequest) where
    -- Neither 2 nor 21 is told of it.
    pub judged_other : Fit l a → Other (judged_after l text a r).number
    judged_other fit = by (bounded text r) refl
      where
        by : (b : Bool) → bounded text r ≡ b → Other (judged_after l text a r).number
        by true e = rw (judged_good l text a r e) (with_other l a.buffer a.place r fit _)
        by false e = rw (judged_bad l text a r e) (unbounded_other l (length a.buffer) a.place r fit)

    abbrev Due : ℕ → Type 0
    Due n = RefusesGood l text a r n ⊎ (RefusesEarly l text a r n ⊎ RefusesNine l text a r n)

    due_bad : (n : ℕ) → bounded text r ≡ false →
        (Early n × ((own : List ℕ) → (answer l a (with r own)).number ≡ n))
        ⊎ (((own : List ℕ) → Early (answer l a (with r own)).number → ⊥) × (n ≡ 9)) → Due n
    due_bad n e (inl w) = inr (inl (e, w.0, w.1))
    due_bad n e (inr w) = inr (inr (e, w.0, w.1))

    -- Its number is due.
    pub judged_due : ((judged_after l text a r).number ≡ 2 → ⊥) → Due (judged_after l text a r).number
    judged_due some = by (bounded text r) refl
      where
        by : (b : Bool) → bounded text r ≡ b → Due (judged_after l text a r).number
        by true e = inl (e, sym (ap (λ (d : Decision). d.number) (judged_good l text a r e)))
        by false e =
            let bad = judged_bad l text a r e in
            rw bad (due_bad _ e (either l a.buffer a.place r (λ z. some (ap (λ (d : Decision). d.number) bad ∙ z))))
