-- One step: the innermost open unit closes, or a unit is judged in it and entered. To unfold a step would unfold the judge
-- and the rows too, so these equations stand for that.
use Rattle.std.proofs.Common.{◌≡◌, refl, Bool, true, false, cond, List, [], ◌∷◌, reverse, ℕ, zero, suc, ◌+◌, ◌-◌, ◌<◌, arith, eq-eqb, ne_eqb, length}
use Rattle.std.proofs.Common.{take, drop}
use Rattle.cdf_unit_prefix.specs.Layout.{Layout}
use Rattle.cdf_unit_table.specs.States.{opens, nothing, complete}
use Rattle.cdf_unit_table.proofs.Bools.{clash}
use Rattle.cdf_unit_judge.specs.Judge.{judge_of, Fault, Found}
use Rattle.cdf_unit_list.specs.Units.{after, ended, listing}
use Rattle.cdf_unit_list.specs.Stack.{incomplete, close, Step, refused, found, opened, entered, with_state, step_in, step, step_by, step_in_by}
use Rattle.cdf_unit_list.specs.Steps.{steps_from, steps}
use Rattle.cdf_unit_list.specs.declared.Unit.{Unit}
use Rattle.cdf_unit_list.specs.declared.Open.{Open}
use Rattle.cdf_unit_list.proofs.Entering.{unit_from}
use Rattle.cdf_unit_list.proofs.Agreement.{follows}

-- A unit that was just entered: it has had nothing.
abbrev pub fresh : Unit → Open
fresh u = record { state = nothing u.id; start = u.start; end = u.end }

module _ (l : Layout) (s : List ℕ) where
  pub step_inside : (o : Open) (os : List Open) (pos : ℕ) → pos < o.end →
      step l s (o ∷ os) pos
      ≡ entered pos (λ state. with_state o state ∷ os) (judge_of l false o.state (take (o.end - pos) (drop pos s)))
  unfolding step_by step_in_by close
  step_inside o os pos h = rw (ne_eqb o.end pos (λ e. omega arith))

  pub step_closes : (o : Open) (os : List Open) (pos : ℕ) → o.end ≡ pos →
      step l s (o ∷ os) pos ≡ cond (complete o.state) (step l s os pos) (refused 10 o.start)
  unfolding step_by step_in_by close
  step_closes o os pos e = rw (eq-eqb o.end pos e) (go (complete o.state))
    where
      go : (b : Bool) →
          step_in l s pos (cond b (close os pos) (incomplete o.start))
          ≡ cond b (step_in l s pos (close os pos)) (refused 10 o.start)
      go true = refl
      go false = refl

  pub steps_end : (f pos : ℕ) (us : List Unit) → steps_from (suc f) l s (step l s [] pos) us ≡ record { units = reverse us; end = ended }
  unfolding steps_from
  steps_end f pos us = refl

  pub steps_on : (f : ℕ) (u : Unit) (os : List Open) (pos : ℕ) (us : List Unit) →
      steps_from (suc f) l s (found u os pos) us ≡ steps_from f l s (step l s os pos) (u ∷ us)
  unfolding steps_from
  steps_on f u os pos us = refl

  -- Steps that are refused, or out of fuel, do not come to the end.
  pub refused_never : (f n at : ℕ) (us : List Unit) → (steps_from f l s (refused n at) us).end ≡ ended → ⊥
  unfolding steps_from
  refused_never zero n at us q = clash cc
  refused_never (suc f) n at us q = clash cc

  pub spent_never : (x : Step) (us : List Unit) → (steps_from 0 l s x us).end ≡ ended → ⊥
  unfolding steps_from
  spent_never x us q = clash cc

  pub listing_steps : listing l s ≡ steps_from (suc (length s)) l s (entered 0 (λ state. []) (judge_of l true 0 s)) []
  unfolding listing steps
  listing_steps = rw (← follows l s true 0)

pub faults : (pos : ℕ) (around : ℕ → List Open) (n k : ℕ) → entered pos around (Fault n k) ≡ refused n (pos + k)
unfolding entered
faults pos around n k = refl

pub enters : (pos : ℕ) (around : ℕ → List Open) (id action own len state : ℕ) →
    entered pos around (Found id action own len state)
    ≡ found (unit_from pos id action own len) (opened (unit_from pos id action own len) (around state)) (after (unit_from pos id action own len))
unfolding entered
enters pos around id action own len state = refl

module _ (u : Unit) (os : List Open) where
  pub opened_parent : opens u.id ≡ true → (opened u os ≡ fresh u ∷ os) × (after u ≡ u.own)
  unfolding opened after
  opened_parent e = (rw e, rw e)

  pub opened_leaf : opens u.id ≡ false → (opened u os ≡ os) × (after u ≡ u.end)
  unfolding opened after
  opened_leaf e = (rw e, rw e)
