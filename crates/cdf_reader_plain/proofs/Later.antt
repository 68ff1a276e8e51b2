-- The units of a run that start at the end of an open unit or after it: the run of the steps from there.
use Rattle.std.proofs.Common.{ℕ, suc, ◌≤◌, ◌<◌, ◌≡◌, refl, sym, ap, ◌∙◌, Bool, true, false, cond, List, [], ◌∷◌, ◌++◌, append-nil, arith, leb-false}
use Rattle.std.proofs.Common.{le-leb, leb, length}
use Rattle.std.proofs.lemmas.Bool.{lt-leb}
use mathlib.Core.List.{reverse_aux}
use Rattle.cdf_unit_prefix.specs.Layout.{Layout}
use Rattle.cdf_unit_list.specs.Units.{End, ended, Listing}
use Rattle.cdf_unit_list.specs.Ranks.{standing, ranked}
use Rattle.cdf_unit_list.specs.Stack.{Step, step}
use Rattle.cdf_unit_list.specs.declared.Unit.{Unit}
use Rattle.cdf_unit_list.specs.declared.Ranked.{Ranked}
use Rattle.cdf_unit_list.specs.declared.Open.{Open}
use Rattle.cdf_unit_list.proofs.Few.{Further, step_further}
use Rattle.cdf_grammar.proofs.Nesting.{Within, nest_open, leaves}
use Rattle.cdf_reader_runs.proofs.Steps.{Run, ends, breaks, hands, ended_run, run_steps}
use Rattle.cdf_reader_plain.specs.Plain.{starting_at}

-- A unit that starts before the position is passed over,
pub starts_before : (at : ℕ) (u : Ranked) (us : List Ranked) → u.unit.start < at → starting_at at (u ∷ us) ≡ starting_at at us
unfolding starting_at
starts_before at u us h = rw (lt-leb at u.unit.start h)

-- and so are those that lie before it; the others rank behind them.
lie_before : (from at : ℕ) (inside later before : List Unit) → Within from at inside →
    starting_at at (ranked before (reverse_aux inside later)) ≡ starting_at at (ranked (inside ++ before) later)
unfolding ranked
lie_before from at [] later before w = refl
lie_before from at (u ∷ inside) later before w =
    lie_before from at inside (u ∷ later) before w.1
    ∙ starts_before at (standing (inside ++ before) u) (ranked (u ∷ (inside ++ before)) later) (omega (arith, w.0.nonempty, w.0.high))

-- To look further on, one may look on from a unit found before.
pub further_on : (from at : ℕ) → from ≤ at → (us : List Ranked) → starting_at at (starting_at from us) ≡ starting_at at us
unfolding starting_at
further_on from at h [] = refl
further_on from at h (u ∷ us) = go (leb from u.unit.start) refl (further_on from at h us)
  where
    go : (b : Bool) → leb from u.unit.start ≡ b → starting_at at (starting_at from us) ≡ starting_at at us →
        starting_at at (cond b (u ∷ us) (starting_at from us)) ≡ starting_at at (u ∷ us)
    go true e more = refl
    go false e more = more ∙ sym (starts_before at u us (omega (arith, leb-false from u.unit.start e)))

module _ (l : Layout) (s : List ℕ) where
  -- The run from a position starts there.
  run_starts : {x : Step} {us : List Unit} {e : End} → Run l s x us e → (pos : ℕ) → Further l s pos x → (before : List Unit) →
      starting_at pos (ranked before us) ≡ ranked before us
  unfolding starting_at ranked standing
  run_starts ends pos at before = refl
  run_starts breaks pos at before = refl
  run_starts (hands {u = u} run) pos at before = rw (le-leb pos u.start (omega arith))

  -- From inside an open unit: first come those that lie in it, the last one first, and then the run from its end of what is around it.
  pub record Past (os : List Open) (pos end : ℕ) (us : List Unit) : Type 0 where
    pub inside : List Unit
    pub within : Within pos end inside
    pub later : List Unit
    pub units : us ≡ reverse_aux inside later
    pub run : Run l s (step l s os end) later ended

  pub run_past : (o : Open) (os : List Open) (pos : ℕ) (us : List Unit) → pos ≤ o.end → Run l s (step l s (o ∷ os) pos) us ended →
      (end : ℕ) → o.end ≡ end → Past os pos end us
  run_past o os pos us h run end e =
      let all = run_steps l s run (suc (length us)) (omega arith) [] in
      let v = leaves (nest_open l s (suc (length us)) o os pos [] h) (ap (λ (x : Listing). x.end) all) in
      let on = sym v.on ∙ all in
      let w = ended_run l s v.fuel (step l s os o.end) (v.inside ++ []) (ap (λ (x : Listing). x.end) on) in
      let units = sym (ap (λ (x : Listing). x.units) on) ∙ w.1 ∙ ap (λ xs. reverse_aux xs w.0) (append-nil v.inside) in
      rw (← e) (record { inside = v.inside; within = v.within; later = w.0; units = units; run = w.2 })

  -- These are the units of the list that start at its end or after it.
  pub past_later : {os : List Open} {pos end : ℕ} {us : List Unit} (p : Past os pos end us) (before : List Unit) →
      starting_at end (ranked before us) ≡ ranked (p.inside ++ before) p.later
  past_later {os} {pos} {end} {us} p before =
      ap (λ x. starting_at end (ranked before x)) p.units
      ∙ lie_before pos end p.inside p.later before p.within
      ∙ run_starts p.run end (step_further l s end os) (p.inside ++ before)
