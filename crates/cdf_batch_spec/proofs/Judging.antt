-- What a request of a list answers after calls that are done, by single calls.
use Rattle.std.proofs.Common.{ℕ, suc, ◌≡◌, refl, sym, ap, ◌∙◌, Bool, true, false, cond, List, [], ◌∷◌, ne_eqb, eqb, length}
use Rattle.cdf_unit_prefix.specs.Layout.{Layout}
use Rattle.cdf_builder_spec.specs.Place.{BuilderPlace}
use Rattle.cdf_builder_spec.specs.Calls.{Decision, Reply, decide_of}
use Rattle.cdf_builder_spec.proofs.Orders.{decided}
use Rattle.cdf_builder_runs.specs.Runs.{answer}
use Rattle.cdf_builder_runs.proofs.Answers.{answer_length}
use Rattle.cdf_batch_spec.specs.declared.UnitRequest.{UnitRequest}
use Rattle.cdf_batch_spec.specs.Asking.{bounded, asked, unbounded, judged}
use Rattle.cdf_batch_spec.specs.Batches.{Told, first_refused}
use Rattle.cdf_batch_spec.proofs.Staged.{unbounded_some}

pub judged_is : (l : Layout) (n : ℕ) (text : List ℕ) (p : BuilderPlace) (r : UnitRequest) →
    judged l n text p r ≡ cond (bounded text r) (decide_of l n p (asked text r)) (record { number = unbounded l n p r; place = p })
unfolding judged
judged_is l n text p r = refl

pub refused_is : (l : Layout) (n : ℕ) (text : List ℕ) (p : BuilderPlace) (k : ℕ) (r : UnitRequest) (rs : List UnitRequest) →
    first_refused l n text p k (r ∷ rs)
    ≡ cond (eqb (judged l n text p r).number 0) (first_refused l n text (judged l n text p r).place (suc k) rs)
    (record { number = (judged l n text p r).number; rank = k })
unfolding first_refused
refused_is l n text p k r rs = refl

pub refused_none : (l : Layout) (n : ℕ) (text : List ℕ) (p : BuilderPlace) (k : ℕ) → first_refused l n text p k [] ≡ record { number = 0; rank = 0 }
unfolding first_refused
refused_none l n text p k = refl

module _ (l : Layout) (text : List ℕ) where
  -- What the list from here on is told, after the calls that replied `a`.
  abbrev pub told_after : Reply → ℕ → List UnitRequest → Told
  told_after a k rs = first_refused l (length a.buffer) text a.place k rs

  module _ (a : Reply) (r : UnitRequest) where
    abbrev pub judged_after : Decision
    judged_after = judged l (length a.buffer) text a.place r

    pub judged_good : bounded text r ≡ true →
        judged_after ≡ record { number = (answer l a (asked text r)).number; place = (answer l a (asked text r)).place }
    judged_good e =
        rw (judged_is l (length a.buffer) text a.place r, e) (decided l a.buffer a.place (asked text r))

    pub judged_bad : bounded text r ≡ false →
        judged_after ≡ record { number = unbounded l (length a.buffer) a.place r; place = a.place }
    judged_bad e = rw (judged_is l (length a.buffer) text a.place r, e)

    -- Where it answers 0 it has good bounds, and answers 0 singly.
    pub judged_done : judged_after.number ≡ 0 → (bounded text r ≡ true) × ((answer l a (asked text r)).number ≡ 0)
    judged_done z = by (bounded text r) refl
      where
        by : (b : Bool) → bounded text r ≡ b → (bounded text r ≡ true) × ((answer l a (asked text r)).number ≡ 0)
        by true e = (e, sym (ap (λ (d : Decision). d.number) (judged_good e)) ∙ z)
        by false e =
            absurd (unbounded_some l (length a.buffer) a.place r (sym (ap (λ (d : Decision). d.number) (judged_bad e)) ∙ z))

    -- The list goes on after it,
    pub goes_on : (k : ℕ) (rs : List UnitRequest) → bounded text r ≡ true → (answer l a (asked text r)).number ≡ 0 →
        told_after a k (r ∷ rs) ≡ told_after (answer l a (asked text r)) (suc k) rs
    goes_on k rs e z =
        rw (refused_is l (length a.buffer) text a.place k r rs, judged_good e, z, answer_length l a (asked text r))

    -- or ends at it.
    pub stops : (k : ℕ) (rs : List UnitRequest) → (judged_after.number ≡ 0 → ⊥) →
        told_after a k (r ∷ rs) ≡ record { number = judged_after.number; rank = k }
    stops k rs some = rw (refused_is l (length a.buffer) text a.place k r rs, ne_eqb judged_after.number 0 some)
