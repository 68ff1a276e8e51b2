-- The two passes come to what a list is due: the first to the number and the rank, the second to place and bytes.
use Rattle.std.proofs.Common.{ℕ, suc, ◌≡◌, refl, sym, ap, ◌∙◌, Bool, true, false, List, [], ◌∷◌, arith, eqb-true, ne_eqb, ltb-true, ltb-false, eqb}
use Rattle.std.proofs.Common.{ltb, length}
use Rattle.std.proofs.lemmas.Bool.{eqb-false}
use Rattle.std.specs.Prelude.{Result, Ok, Err}
use Rattle.cdf_refusal.specs.Numbers.{number_of}
use Rattle.cdf_refusal.specs.declared.Refusal.{Refusal}
use Rattle.cdf_refusal.proofs.Apart.{refuses}
use Rattle.cdf_unit_prefix.specs.Layout.{Layout, layout_of}
use Rattle.cdf_unit_prefix.specs.declared.Edition.TheVariants.{First}
use Rattle.cdf_builder_spec.specs.Place.{BuilderPlace, fits}
use Rattle.cdf_builder_spec.specs.Requests.{Request}
use Rattle.cdf_builder_spec.specs.Calls.{Reply}
use Rattle.cdf_builder_runs.specs.Runs.{answer, run, AllDone}
use Rattle.cdf_builder_runs.proofs.Answers.{first_done, answer_length, answer_fits}
use Rattle.cdf_batch_spec.specs.declared.UnitRequest.{UnitRequest}
use Rattle.cdf_batch_spec.specs.Asking.{asked, judged}
use Rattle.cdf_batch_spec.specs.Batches.{Told, first_refused, told_of, Outcome, from, single_calls, batch_of}
use Rattle.cdf_batch_spec.specs.Refusing.{AllBounded}
use Rattle.cdf_batch_spec.proofs.Judging.{refused_is, refused_none, judged_good, judged_done}
use Rattle.cdf_batch_spec.proofs.Walking.{calls}
use Rattle.cdf_batch_spec.proofs.Proved.{told_unfit, told_many, told_first, batch_is, number_is, built, singly}
use Rattle.cdf_batch_turn.specs.declared.PlaceNumbers.{PlaceNumbers}
use Rattle.cdf_batch_turn.specs.declared.Refused.{Refused}
use Rattle.cdf_batch_turn.specs.Numbers.{viewed, outcome_of}
use Rattle.cdf_batch_turn.specs.Passes.{Going, going, turn_of, pass_of, begun_number, from_place, passed, batched_of}
use Rattle.cdf_batch_turn.proofs.Turning.{turn_still, tells, turn_judges, turn_calls}

-- Of calls that are all done the last is.
last_done : (l : Layout) (a : Reply) (rs : List Request) → AllDone l a rs → (run l a rs).number ≡ 0
unfolding run
last_done l a [] d = d
last_done l a (r ∷ rs) d = last_done l (answer l a r) rs d.1

abbrev told_by : Going → Told
told_by g = record { number = g.number; rank = g.rank }

module _ (l : Layout) (text : List ℕ) where
  pub pass_cons : (g : Going) (k : ℕ) (r : UnitRequest) (rs : List UnitRequest) →
      pass_of l text g k (r ∷ rs) ≡ pass_of l text (turn_of l text g k r) (suc k) rs
  unfolding pass_of
  pass_cons g k r rs = refl

  pub pass_none : (g : Going) (k : ℕ) → pass_of l text g k [] ≡ g
  unfolding pass_of
  pass_none g k = refl

  -- After a refusal a pass does nothing.
  pub pass_still : (g : Going) → (g.number ≡ 0 → ⊥) → (k : ℕ) (rs : List UnitRequest) → pass_of l text g k rs ≡ g
  pass_still g some k [] = pass_none g k
  pass_still g some k (r ∷ rs) =
      pass_cons g k r rs ∙ ap (λ (x : Going). pass_of l text x (suc k) rs) (turn_still l text g k r some) ∙ pass_still g some (suc k) rs

  -- The first pass, where it has refused none.
  abbrev deciding : BuilderPlace → List ℕ → Going
  deciding p s = record { writing = false; number = 0; rank = 0; place = p; buffer = s }

  -- It tells the first that is refused, and writes nothing.
  abbrev Tells : Going → Told → List ℕ → Type 0
  Tells g t s = (told_by g ≡ t) × (g.buffer ≡ s)

  module _ (s : List ℕ) where
    -- A request that is taken leaves a place that fits.
    taken_fits : (p : BuilderPlace) (r : UnitRequest) → (judged l (length s) text p r).number ≡ 0 →
        fits l (length s) (judged l (length s) text p r).place ≡ true
    taken_fits p r z =
        let d = judged_done l text (from p s) r z in
        let fit = rw (answer_length l (from p s) (asked text r)) at (answer_fits l (from p s) (asked text r) d.1) in
        rw (judged_good l text (from p s) r d.0) fit

    first_pass : (p : BuilderPlace) → fits l (length s) p ≡ true → (rs : List UnitRequest) (k : ℕ) →
        Tells (pass_of l text (deciding p s) k rs) (first_refused l (length s) text p k rs) s
    first_pass p f [] k = rw (pass_none (deciding p s) k, refused_none l (length s) text p k) (refl, refl)
    first_pass p f (r ∷ rs) k =
        by (eqb (judged l (length s) text p r).number 0) refl (λ q e. first_pass q e rs (suc k))
      where
        by : (b : Bool) → eqb (judged l (length s) text p r).number 0 ≡ b →
            ((q : BuilderPlace) → fits l (length s) q ≡ true →
            Tells (pass_of l text (deciding q s) (suc k) rs) (first_refused l (length s) text q (suc k) rs) s) →
            Tells (pass_of l text (deciding p s) k (r ∷ rs)) (first_refused l (length s) text p k (r ∷ rs)) s
        by true e rest =
            let zero = eqb-true (judged l (length s) text p r).number 0 e in
            rw (
              pass_cons (deciding p s) k r rs,
              turn_judges l text (deciding p s) k r refl f refl,
              refused_is l (length s) text p k r rs,
              zero,
            ) (rest (judged l (length s) text p r).place (taken_fits p r zero))
        by false e rest =
            rw (
              pass_cons (deciding p s) k r rs,
              turn_judges l text (deciding p s) k r refl f refl,
              pass_still (tells l text (deciding p s) k r refl (judged l (length s) text p r).number (judged l (length s) text p r).place)
                  (eqb-false (judged l (length s) text p r).number 0 e) (suc k) rs,
              refused_is l (length s) text p k r rs,
              e,
            ) (refl, refl)

  -- The second pass, after calls that replied `a`.
  abbrev writing : Reply → Going
  writing a = record { writing = true; number = a.number; rank = 0; place = a.place; buffer = a.buffer }

  -- It makes the single calls.
  second_pass : (a : Reply) (rs : List UnitRequest) (k : ℕ) → AllBounded text rs → AllDone l a (calls l text rs) →
      pass_of l text (writing a) k rs ≡ writing (run l a (calls l text rs))
  unfolding run
  second_pass a [] k b d = pass_none (writing a) k
  second_pass a (r ∷ rs) k b d =
      let done = first_done l (answer l a (asked text r)) (calls l text rs) d.1 in
      pass_cons (writing a) k r rs
      ∙ ap (λ (g : Going). pass_of l text g (suc k) rs) (turn_calls l text (writing a) k r d.0 b.0 done refl)
      ∙ second_pass (answer l a (asked text r)) rs (suc k) b.1 d.1

-- All that is done with a list: what comes before the passes, the first, and the second.
module _ (p : PlaceNumbers) (s text : List ℕ) (rs : List UnitRequest) where
  abbrev l₁ : Layout
  l₁ = layout_of First

  -- Where the first pass begins and ends.
  abbrev begins : ℕ → Going
  begins n = record { writing = false; number = n; rank = 0; place = viewed p; buffer = s }

  abbrev before : ℕ
  before = begun_number p (length s) (length rs)

  abbrev decides : Going
  decides = pass_of l₁ text (begins before) 0 rs

  abbrev due : Told
  due = told_of l₁ (length s) text (viewed p) rs

  -- It begins with a number other than 0, and nothing is done;
  halted : (n : ℕ) → before ≡ n → (n ≡ 0 → ⊥) → due ≡ record { number = n; rank = 0 } → Tells l₁ text decides due s
  halted n is some e =
      rw (pass_still l₁ text (begins before) (λ z. some (sym is ∙ z)) 0 rs, is, e) (refl, refl)

  -- or with 0, and it tells what is due.
  decided : Tells l₁ text decides due s
  decided = by (fits l₁ (length s) (viewed p)) refl
    where
      few : (b : Bool) → fits l₁ (length s) (viewed p) ≡ true → ltb 512 (length rs) ≡ b → Tells l₁ text decides due s
      few true e c =
          halted 21 (rw (e, c)) (λ z. omega arith) (told_many l₁ s text (viewed p) rs e (ltb-true 512 (length rs) c))
      few false e c =
          let zero : before ≡ 0 = rw (e, c) in
          rw (zero, told_first l₁ s text (viewed p) rs e (ltb-false 512 (length rs) c)) (first_pass l₁ text s (viewed p) e rs 0)

      by : (b : Bool) → fits l₁ (length s) (viewed p) ≡ b → Tells l₁ text decides due s
      by true e = few (ltb 512 (length rs)) e refl
      by false e = halted 2 (rw e) (λ z. omega arith) (told_unfit l₁ s text (viewed p) rs e)

  -- Of a list that is refused, number and rank are told, and the place that was given.
  none : (m k : ℕ) → record { number = m; rank = k } ≡ due → (m ≡ 0 → ⊥) →
      record { number = m; rank = k; place = viewed p; buffer = s } ≡ batch_of l₁ s text (viewed p) rs
  none m k e some =
      let number : m ≡ due.number = ap (λ (t : Told). t.number) e in
      let other = ne_eqb due.number 0 (λ z. some (number ∙ z)) in
      ap (λ t. same_as t) e ∙ sym (batch_is l₁ s text (viewed p) rs ∙ rw other)
    where
      same_as : Told → Outcome
      same_as t = record { number = t.number; rank = t.rank; place = viewed p; buffer = s }

  -- It is refused before the passes,
  pub unbegun : (e : Refusal) → number_of e ≡ before →
      outcome_of (batched_of p (Err (record { refusal = e; rank = 0 }))) s ≡ batch_of l₁ s text (viewed p) rs
  unbegun e is =
      let still : decides ≡ begins before = pass_still l₁ text (begins before) (λ z. refuses e (is ∙ z)) 0 rs in
      none (number_of e) 0 (ap (λ (n : ℕ). told_by (begins n)) is ∙ ap told_by (sym still) ∙ decided.0) (refuses e)

  module _ (zero : 0 ≡ before) where
    abbrev first : Going
    first = from_place (viewed p) (pass_of l₁ text (going false (viewed p) s) 0 rs)

    same : first ≡ from_place (viewed p) decides
    same = ap (λ (n : ℕ). from_place (viewed p) (pass_of l₁ text (begins n) 0 rs)) zero

    told : told_by first ≡ due
    told = ap told_by same ∙ decided.0

    still : first.buffer ≡ s
    still = ap (λ (g : Going). g.buffer) same ∙ decided.1

    -- or in the first,
    pub unjudged : (e : Refused) (s1 : List ℕ) → passed false (viewed p) (Err e) s1 ≡ first →
        outcome_of (batched_of p (Err e)) s1 ≡ batch_of l₁ s text (viewed p) rs
    unjudged e s1 one =
        let buffer : s1 ≡ s = ap (λ (g : Going). g.buffer) one ∙ still in
        rw buffer (none (number_of e.refusal) e.rank (ap told_by one ∙ told) (refuses e.refusal))

    -- or built: the second pass makes the single calls.
    module _ (q : PlaceNumbers) (s1 : List ℕ) (one : passed false (viewed p) (Ok q) s1 ≡ first) where
      made : from_place (viewed p) (pass_of l₁ text (going true (viewed p) s1) 0 rs)
          ≡ going true (single_calls l₁ s text (viewed p) rs).place (single_calls l₁ s text (viewed p) rs).buffer
      made =
          let buffer : s1 ≡ s = ap (λ (g : Going). g.buffer) one ∙ still in
          let done : (batch_of l₁ s text (viewed p) rs).number ≡ 0
          = number_is l₁ s text (viewed p) rs ∙ sym (ap (λ (t : Told). t.number) (ap told_by one ∙ told)) in
          let taken = ((built l₁ s text (viewed p) rs).0 done).2 in
          rw (
            buffer,
            second_pass l₁ text (from (viewed p) s) rs 0 taken.bounds taken.calls,
            last_done l₁ (from (viewed p) s) (calls l₁ text rs) taken.calls,
          )

      pub twice : (r : Result PlaceNumbers Refused) (s2 : List ℕ) →
          passed true (viewed p) r s2 ≡ from_place (viewed p) (pass_of l₁ text (going true (viewed p) s1) 0 rs) →
          outcome_of (batched_of p r) s2 ≡ batch_of l₁ s text (viewed p) rs
      twice (Ok a) s2 two =
          ap (λ (g : Going). outcome g) (two ∙ made)
          ∙ sym (singly l₁ s text (viewed p) rs
          (number_is l₁ s text (viewed p) rs ∙ sym (ap (λ (t : Told). t.number) (ap told_by one ∙ told))))
        where
          outcome : Going → Outcome
          outcome g = record { number = g.number; rank = g.rank; place = g.place; buffer = g.buffer }
      twice (Err e) s2 two = absurd (refuses e.refusal (ap (λ (g : Going). g.number) (two ∙ made)))
