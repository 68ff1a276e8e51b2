-- The term of the claims.
use Rattle.std.proofs.Common.{ℕ, ◌≤◌, ◌<◌, ◌≡◌, refl, sym, ap, ◌∙◌, Bool, true, false, cond, not, List, [], ◌∷◌, ◌⊎◌, inl, inr, ◌↔◌, arith, ne_eqb}
use Rattle.std.proofs.Common.{ltb-true, ltb-false, lt-ltb, le-ltb, eqb, ltb, length}
use Rattle.cdf_unit_prefix.specs.Layout.{Layout}
use Rattle.cdf_grammar.specs.Published.{Among}
use Rattle.cdf_builder_spec.specs.Place.{BuilderPlace, fits}
use Rattle.cdf_builder_runs.specs.Runs.{run}
use Rattle.cdf_builder_runs.proofs.Answers.{run_fits}
use Rattle.cdf_batch_spec.specs.declared.UnitRequest.{UnitRequest}
use Rattle.cdf_batch_spec.specs.Batches.{Told, first_refused, told_of, Outcome, from, single_calls, batch_of}
use Rattle.cdf_batch_spec.specs.Refusing.{Taken, RefusedAt}
use Rattle.cdf_batch_spec.specs.Claims.{Claims}
use Rattle.cdf_batch_spec.proofs.Computed.{computed, most}
use Rattle.cdf_batch_spec.proofs.Staged.{Other}
use Rattle.cdf_batch_spec.proofs.Walking.{calls, Through, Stopped, walk, all_taken, judged_other, judged_due}

module _ (l : Layout) (s text : List ℕ) (p : BuilderPlace) (rs : List UnitRequest) where
  abbrev pub told : Told
  told = told_of l (length s) text p rs

  abbrev pub first_told : Told
  first_told = first_refused l (length s) text p 0 rs

  pub told_is : told
      ≡ cond (not (fits l (length s) p)) (record { number = 2; rank = 0 }) (cond (ltb 512 (length rs)) (record { number = 21; rank = 0 }) first_told)
  unfolding told_of
  told_is = refl

  pub told_unfit : fits l (length s) p ≡ false → told ≡ record { number = 2; rank = 0 }
  told_unfit e = told_is ∙ rw e

  pub told_many : fits l (length s) p ≡ true → 512 < length rs → told ≡ record { number = 21; rank = 0 }
  told_many e c = told_is ∙ rw (e, lt-ltb 512 (length rs) c)

  pub told_first : fits l (length s) p ≡ true → length rs ≤ 512 → told ≡ first_told
  told_first e c = told_is ∙ rw (e, le-ltb 512 (length rs) c)

  pub batch_is : batch_of l s text p rs
      ≡ record {
        number = told.number;
        rank = told.rank;
        place = (cond (eqb told.number 0) (single_calls l s text p rs) (from p s)).place;
        buffer = (cond (eqb told.number 0) (single_calls l s text p rs) (from p s)).buffer;
      }
  unfolding batch_of
  batch_is = refl

  pub number_is : (batch_of l s text p rs).number ≡ told.number
  number_is = ap (λ (o : Outcome). o.number) batch_is

  pub rank_is : (batch_of l s text p rs).rank ≡ told.rank
  rank_is = ap (λ (o : Outcome). o.rank) batch_is

  -- How a list ends: the place does not fit; there are too many; all are taken; or it stops at one of them.
  data Ended (t : Told) : Type 0 where
    unfit : fits l (length s) p ≡ false → t ≡ record { number = 2; rank = 0 } → Ended t
    many : fits l (length s) p ≡ true → 512 < length rs → t ≡ record { number = 21; rank = 0 } → Ended t
    taken : fits l (length s) p ≡ true → length rs ≤ 512 → Through l text (from p s) rs t → Ended t
    stopped : fits l (length s) p ≡ true → length rs ≤ 512 → Stopped l text (from p s) 0 rs t → Ended t

  ended : Ended told
  ended = by (fits l (length s) p) refl
    where
      through : (t : Told) → fits l (length s) p ≡ true → length rs ≤ 512 →
          Through l text (from p s) rs t ⊎ Stopped l text (from p s) 0 rs t → Ended t
      through t e few (inl w) = taken e few w
      through t e few (inr w) = stopped e few w

      counted : (b : Bool) → fits l (length s) p ≡ true → ltb 512 (length rs) ≡ b → Ended told
      counted true e c = let more = ltb-true 512 (length rs) c in many e more (told_many e more)
      counted false e c =
          let few = ltb-false 512 (length rs) c in
          through told e few (rw (told_first e few) (walk l text (from p s) refl rs 0))

      by : (b : Bool) → fits l (length s) p ≡ b → Ended told
      by true e = counted (ltb 512 (length rs)) e refl
      by false e = unfit e (told_unfit e)

  -- The number of a request at which it stops is another than 2 and 21.
  stopped_other : fits l (length s) p ≡ true → {t : Told} → Stopped l text (from p s) 0 rs t → Other t.number
  stopped_other fit w =
      let last = run l (from p s) (calls l text w.before) in
      rw w.told (judged_other l text last w.refused (run_fits l (calls l text w.before) (from p s) fit w.done))

  -- What 0 tells, and what gets it.
  zero_told : Ended told → told.number ≡ 0 →
      (told ≡ record { number = 0; rank = 0 }) × (fits l (length s) p ≡ true) × (length rs ≤ 512) × Taken l s text p rs
  zero_told (unfit e t) z = absurd (omega (arith, sym z ∙ ap (λ (x : Told). x.number) t))
  zero_told (many e c t) z = absurd (omega (arith, sym z ∙ ap (λ (x : Told). x.number) t))
  zero_told (taken e c t) z = (t.told, e, c, record { bounds = t.bounds; calls = t.done })
  zero_told (stopped e c t) z = absurd (t.some z)

  pub built : ((batch_of l s text p rs).number ≡ 0) ↔ ((fits l (length s) p ≡ true) × (length rs ≤ 512) × Taken l s text p rs)
  built = (
    λ z. let w = zero_told ended (sym number_is ∙ z) in (w.1, w.2, w.3),
    λ w.
        number_is ∙ ap (λ (t : Told). t.number)
        (told_first w.0 w.1 ∙ all_taken l text (from p s) rs 0 w.2.bounds w.2.calls),
  )

  pub singly : (batch_of l s text p rs).number ≡ 0 →
      batch_of l s text p rs
      ≡ record { number = 0; rank = 0; place = (single_calls l s text p rs).place; buffer = (single_calls l s text p rs).buffer }
  singly z = let w = zero_told ended (sym number_is ∙ z) in batch_is ∙ rw w.0

  two_told : Ended told → told.number ≡ 2 → fits l (length s) p ≡ false
  two_told (unfit e t) z = e
  two_told (many e c t) z = absurd (omega (arith, sym z ∙ ap (λ (x : Told). x.number) t))
  two_told (taken e c t) z = absurd (omega (arith, sym z ∙ ap (λ (x : Told). x.number) t.told))
  two_told (stopped e c t) z = absurd ((stopped_other e t).0 z)

  unfitted : ((batch_of l s text p rs).number ≡ 2) ↔ (fits l (length s) p ≡ false)
  unfitted = (λ z. two_told ended (sym number_is ∙ z), λ e. number_is ∙ ap (λ (t : Told). t.number) (told_unfit e))

  many_told : Ended told → told.number ≡ 21 → (fits l (length s) p ≡ true) × (512 < length rs)
  many_told (unfit e t) z = absurd (omega (arith, sym z ∙ ap (λ (x : Told). x.number) t))
  many_told (many e c t) z = (e, c)
  many_told (taken e c t) z = absurd (omega (arith, sym z ∙ ap (λ (x : Told). x.number) t.told))
  many_told (stopped e c t) z = absurd ((stopped_other e t).1 z)

  counted : ((batch_of l s text p rs).number ≡ 21) ↔ ((fits l (length s) p ≡ true) × (512 < length rs))
  counted = (
    λ z. many_told ended (sym number_is ∙ z),
    λ w. number_is ∙ ap (λ (t : Told). t.number) (told_many w.0 w.1),
  )

  rank_told : Ended told → Among told.number (0 ∷ 2 ∷ 21 ∷ []) → told.rank ≡ 0
  rank_told (unfit e t) a = ap (λ (x : Told). x.rank) t
  rank_told (many e c t) a = ap (λ (x : Told). x.rank) t
  rank_told (taken e c t) a = ap (λ (x : Told). x.rank) t.told
  rank_told (stopped e c t) (inl z) = absurd (t.some z)
  rank_told (stopped e c t) (inr (inl z)) = absurd ((stopped_other e t).0 z)
  rank_told (stopped e c t) (inr (inr (inl z))) = absurd ((stopped_other e t).1 z)
  rank_told (stopped e c t) (inr (inr (inr z))) = absurd z

  rankless : Among (batch_of l s text p rs).number (0 ∷ 2 ∷ 21 ∷ []) → (batch_of l s text p rs).rank ≡ 0
  rankless a = rank_is ∙ rank_told ended (rw number_is at a)

  refused_at : Ended told → (told.number ≡ 0 → ⊥) → (told.number ≡ 2 → ⊥) → (told.number ≡ 21 → ⊥) →
      RefusedAt l s text p rs told.number told.rank
  refused_at (unfit e t) zero two more = absurd (two (ap (λ (x : Told). x.number) t))
  refused_at (many e c t) zero two more = absurd (more (ap (λ (x : Told). x.number) t))
  refused_at (taken e c t) zero two more = absurd (zero (ap (λ (x : Told). x.number) t.told))
  refused_at (stopped e c t) zero two more =
      let last = run l (from p s) (calls l text t.before) in
      let same = ap (λ (x : Told). x.number) t.told in
      record {
        before = t.before;
        refused = t.refused;
        behind = t.behind;
        parts = t.parts;
        ranked = let at = ap (λ (x : Told). x.rank) t.told in omega (arith, at);
        taken = record { bounds = t.bounds; calls = t.done };
        due = rw same (judged_due l text last t.refused (λ z. two (same ∙ z)));
      }

  first : ((batch_of l s text p rs).number ≡ 0 → ⊥) → ((batch_of l s text p rs).number ≡ 2 → ⊥) → ((batch_of l s text p rs).number ≡ 21 → ⊥) →
      RefusedAt l s text p rs (batch_of l s text p rs).number (batch_of l s text p rs).rank
  first zero two more =
      rw (number_is, rank_is) (refused_at ended (λ z. zero (number_is ∙ z)) (λ z. two (number_is ∙ z)) (λ z. more (number_is ∙ z)))

  pub none : ((batch_of l s text p rs).number ≡ 0 → ⊥) → ((batch_of l s text p rs).place ≡ p) × ((batch_of l s text p rs).buffer ≡ s)
  none some =
      let other = ne_eqb told.number 0 (λ z. some (number_is ∙ z)) in
      (ap (λ (o : Outcome). o.place) batch_is ∙ rw other, ap (λ (o : Outcome). o.buffer) batch_is ∙ rw other)

empty : (l : Layout) (s text : List ℕ) (p : BuilderPlace) → fits l (length s) p ≡ true →
    batch_of l s text p [] ≡ record { number = 0; rank = 0; place = p; buffer = s }
unfolding run
empty l s text p fit = singly l s text p [] ((built l s text p []).1 (fit, omega arith, record { bounds = record {}; calls = refl }))

pub proved : Claims
proved = record {
  built = built;
  singly = singly;
  unfit = unfitted;
  many = counted;
  rankless = rankless;
  first = first;
  none = none;
  empty = empty;
  samples = computed;
  most = most;
}
