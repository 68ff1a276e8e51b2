-- Where the unit list comes to units, from there it goes on to its end; bytes that agree up to there come to them too.
use Rattle.std.proofs.Common.{ℕ, ◌+◌, ◌-◌, ◌≤◌, ◌≡◌, refl, sym, ap, ◌∙◌, true, List, [], ◌∷◌, reverse, ◌⊎◌, inl, inr, ◌↔◌, arith, length}
use mathlib.Core.List.{reverse_aux}
use Rattle.cdf_unit_table.proofs.Bools.{clash}
use Rattle.cdf_unit_prefix.specs.Layout.{Layout}
use Rattle.cdf_unit_data.specs.Claims.{Agree}
use Rattle.cdf_unit_judge.specs.Judge.{judge_of, Judged, Fault, Found}
use Rattle.cdf_unit_list.specs.Units.{after, Next, broken, listed, unit_at, End, unfinished, ended, fault, next, listing}
use Rattle.cdf_unit_list.specs.Check.{Verdict, answer_of, answer, check_of}
use Rattle.cdf_unit_list.specs.Stack.{Step, refused, found, step}
use Rattle.cdf_unit_list.specs.declared.Unit.{Unit}
use Rattle.cdf_unit_list.specs.declared.Open.{Open}
use Rattle.cdf_unit_list.proofs.Entering.{Follow}
use Rattle.cdf_unit_list.proofs.Agreement.{Agrees, both_end, both_refuse, both_list, first_agrees, next_agrees}
use Rattle.cdf_reader_spec.proofs.Replying.{start}
use Rattle.cdf_reader_runs.proofs.Steps.{Run, ends, breaks, hands, listed as listed-run}
use Rattle.cdf_explain_spec.specs.Claims.{behind}
use Rattle.cdf_explain_spec.proofs.Last.{agrees_broken}
use Rattle.cdf_explain_spec.proofs.Trying.{next_of, Settled, Tried, by_next, next_place, next_same}

-- A step that finds a unit, of the list and of the steps.
agrees_found : {us : List Unit} {m : Next} {x : Step} → Agrees us m x → (u : Unit) (os : List Open) (pos : ℕ) → x ≡ found u os pos →
    (m ≡ listed u) × (pos ≡ after u) × Follow (u ∷ us) os (after u)
agrees_found both_end u os pos e = clash cc
agrees_found both_refuse u os pos e = clash cc
agrees_found (both_list {u = v} {os = vs} few f) u os pos e =
    let unit : v ≡ u = cc in
    let stack : vs ≡ os = cc in
    let place : after v ≡ pos = cc in
    (ap listed unit, sym place ∙ ap after unit, rw (unit, stack) at f)

agrees_listed : {us : List Unit} {m : Next} {x : Step} → Agrees us m x → (u : Unit) → m ≡ listed u →
    (os : List Open) × (x ≡ found u os (after u)) × Follow (u ∷ us) os (after u)
agrees_listed both_end u e = clash cc
agrees_listed both_refuse u e = clash cc
agrees_listed (both_list {u = v} {os = os} few f) u e = let unit : v ≡ u = cc in (os, rw unit, rw unit at f)

agrees_refused : {us : List Unit} {m : Next} {x : Step} → Agrees us m x → (n at : ℕ) → m ≡ broken n at → x ≡ refused n at
agrees_refused both_end n at e = clash cc
agrees_refused both_refuse n at e = cc
agrees_refused (both_list few f) n at e = clash cc

module _ (l : Layout) (s : List ℕ) where
  -- The unit list comes to these units, the last one first.
  pub data Passes : List Unit → Type 0 where
    none : Passes []
    more : {u : Unit} {us : List Unit} → Passes us → next_of l s us ≡ listed u → Passes (u ∷ us)

  abbrev Goes : List Unit → Step → Type 0
  Goes us x = Agrees us (next_of l s us) x

  goes_on : (u : Unit) (us : List Unit) (os : List Open) → Follow (u ∷ us) os (after u) → Goes (u ∷ us) (step l s os (after u))
  unfolding next
  goes_on u us os f = next_agrees l s (u ∷ us) os (after u) f

  goes_first : Goes [] (start l s)
  unfolding next
  goes_first = first_agrees l s true 0

  -- So it does to all units of a run,
  passes_run : {x : Step} {us : List Unit} {e : End} → Run l s x us e → (before : List Unit) → Goes before x → Passes before →
      Passes (reverse_aux us before)
  passes_run ends before g p = p
  passes_run breaks before g p = p
  passes_run (hands {u = u} {os = os} {pos = pos} run) before g p =
      let f = agrees_found g u os pos refl in
      passes_run run (u ∷ before) (rw f.1 (goes_on u before os f.2)) (more p f.0)

  pub passes_all : Passes (reverse (listing l s).units)
  passes_all = passes_run (listed-run l s) [] goes_first none

  run_found : {x : Step} {us : List Unit} {e : End} → Run l s x us e → (u : Unit) (os : List Open) (pos : ℕ) → x ≡ found u os pos →
      (vs : List Unit) × (us ≡ u ∷ vs) × Run l s (step l s os pos) vs e
  run_found ends u os pos q = clash cc
  run_found breaks u os pos q = clash cc
  run_found (hands {u = v} {os = ws} {pos = at} {us = vs} run) u os pos q =
      let unit : v ≡ u = cc in
      let stack : ws ≡ os = cc in
      let place : at ≡ pos = cc in
      (vs, rw unit, rw (stack, place) at run)

  -- and from units that it comes to it goes on to its end.
  pub record Onwards (before : List Unit) : Type 0 where
    pub taken : Step
    pub rest : List Unit
    pub run : Run l s taken rest (listing l s).end
    pub goes : Goes before taken

  pub onwards : {before : List Unit} → Passes before → Onwards before
  onwards none = record { taken = start l s; rest = (listing l s).units; run = listed-run l s; goes = goes_first }
  onwards (more {u} {us} p e) =
      let w = onwards p in
      let f = agrees_listed w.goes u e in
      let r = run_found w.run u f.0 (after u) f.1 in
      record { taken = step l s f.0 (after u); rest = r.0; run = r.2; goes = goes_on u us f.0 f.2 }

  -- 7 is never given before the units that it has come to.
  seven_there : (before : List Unit) (n at : ℕ) → next_of l s before ≡ broken n at → n ≡ 7 → behind before ≤ at
  unfolding unit_at
  seven_there before n at e seven = go (by_next l before)
    where
      judged : (j : Judged) → unit_at (behind before) j ≡ broken n at → behind before ≤ at
      judged (Fault k by) q = let z : behind before + by ≡ at = cc in omega arith
      judged (Found id action own len state) q = clash cc

      go : Settled l before ⊎ Tried l before → behind before ≤ at
      go (inl w) = absurd (omega (arith, w.ten n at (sym (w.is s) ∙ e)))
      go (inr t) = judged (judge_of l t.root t.state (t.part s)) (sym (t.is s) ∙ e)

  seven_later : {x : Step} {us : List Unit} {e : End} → Run l s x us e → (before : List Unit) → Goes before x → (at : ℕ) → e ≡ fault 7 at →
      behind before ≤ at
  seven_later ends before g at q = clash cc
  seven_later (breaks {n = n} {at = k}) before g at q =
      let seven : n ≡ 7 = cc in
      let place : k ≡ at = cc in
      rw (← place) (seven_there before n k (agrees_broken g n k refl) seven)
  seven_later (hands {u = u} {os = os} {pos = pos} run) before g at q =
      let f = agrees_found g u os pos refl in
      let later = seven_later run (u ∷ before) (rw f.1 (goes_on u before os f.2)) at q in
      omega (arith, next_place l s before u f.0)

  check_fault : (n at : ℕ) → (listing l s).end ≡ fault n at → check_of l s ≡ record { number = n; value = at }
  unfolding check_of answer answer_of
  check_fault n at e = rw e

  fault_check : (at : ℕ) → check_of l s ≡ record { number = 7; value = at } → (listing l s).end ≡ fault 7 at
  unfolding check_of answer answer_of
  fault_check at e = go (listing l s).end e
    where
      go : (x : End) → answer_of (length (listing l s).units) x ≡ record { number = 7; value = at } → x ≡ fault 7 at
      go unfinished e = let z : ◌≡◌ {A = ℕ} 99 7 = ap (λ (a : Verdict). a.number) e in absurd (omega arith)
      go ended e = let z : ◌≡◌ {A = ℕ} 0 7 = ap (λ (a : Verdict). a.number) e in absurd (omega arith)
      go (fault n k) e =
          let a : n ≡ 7 = ap (λ (a : Verdict). a.number) e in
          let b : k ≡ at = ap (λ (a : Verdict). a.value) e in
          rw (a, b)

  run_refused : {x : Step} {us : List Unit} {e : End} → Run l s x us e → (n at : ℕ) → x ≡ refused n at → e ≡ fault n at
  run_refused ends n at q = clash cc
  run_refused (breaks {n = m} {at = k}) n at q =
      let a : m ≡ n = cc in
      let b : k ≡ at = cc in
      rw (a, b)
  run_refused (hands run) n at q = clash cc

  -- Where it comes to units behind which one is tried, the check gives 7 there exactly if the judge does.
  module _ (before : List Unit) (t : Tried l before) (w : Onwards before) where
    abbrev judging : Judged
    judging = judge_of l t.root t.state (t.part s)

    fault_there : (n k : ℕ) → judging ≡ Fault n k → (listing l s).end ≡ fault n (behind before + k)
    unfolding unit_at
    fault_there n k e = run_refused w.run n (behind before + k) (agrees_refused w.goes n (behind before + k) (t.is s ∙ rw e))

    pub seven_given : (check_of l s ≡ record { number = 7; value = behind before }) ↔ (judging ≡ Fault 7 0)
    unfolding unit_at
    seven_given = ((λ e. by_judge judging refl (fault_check (behind before) e)), given)
      where
        given : judging ≡ Fault 7 0 → check_of l s ≡ record { number = 7; value = behind before }
        given e =
            let same : behind before + 0 ≡ behind before = omega arith in
            rw same at (check_fault 7 (behind before + 0) (fault_there 7 0 e))

        by_judge : (j : Judged) → judging ≡ j → (listing l s).end ≡ fault 7 (behind before) → j ≡ Fault 7 0
        by_judge (Fault n k) q e =
            let both : fault n (behind before + k) ≡ fault 7 (behind before) = sym (fault_there n k q) ∙ e in
            let a : n ≡ 7 = cc in
            let b : behind before + k ≡ behind before = cc in
            let c : k ≡ 0 = omega arith in
            rw (a, c)
        by_judge (Found id action own len state) q e =
            let u : Unit = record { id = id; action = action; start = behind before; own = behind before + own; end = behind before + len } in
            let next : next_of l s before ≡ listed u = t.is s ∙ rw q in
            let f = agrees_listed w.goes u next in
            let r = run_found w.run u f.0 (after u) f.1 in
            let later = seven_later r.2 (u ∷ before) (goes_on u before f.0 f.2) (behind before) e in
            absurd (omega (arith, next_place l s before u next))

-- Bytes that agree up to where these units end come to them too.
pub passes_same : (l : Layout) (s q : List ℕ) (m : ℕ) → Agree m s q → {us : List Unit} → Passes l s us → behind us ≤ m → Passes l q us
passes_same l s q m a none h = none
passes_same l s q m a (more {u} {us} p e) h =
    let place = next_place l s us u e in
    more (passes_same l s q m a p (omega arith)) (next_same l m s q us u a (omega arith) e)
