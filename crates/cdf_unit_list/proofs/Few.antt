-- Each listed unit takes a prefix, so that there are few of them.
use Rattle.std.proofs.Common.{◌≡◌, refl, Bool, false, List, [], ◌∷◌, ℕ, zero, suc, ◌≤◌, ◌+◌, ◌-◌, ◌*◌, arith, suc-mul, length, take, drop}
use Rattle.std.proofs.Common.{length-take, length-drop}
use Rattle.std.proofs.lemmas.List.{length-reverse}
use Rattle.cdf_unit_prefix.specs.Layout.{Layout, prefix_of}
use Rattle.cdf_unit_judge.specs.Judge.{judge_of, Judged, Fault, Found}
use Rattle.cdf_unit_list.specs.Units.{list_by}
use Rattle.cdf_unit_list.specs.Stack.{Closing, incomplete, left, close, Step, done, refused, found, entered, with_state, step_in, step_in_by, step, step_by}
use Rattle.cdf_unit_list.specs.Steps.{steps_from, steps}
use Rattle.cdf_unit_list.specs.declared.Unit.{Unit}
use Rattle.cdf_unit_list.specs.declared.Open.{Open}
use Rattle.cdf_unit_judge.proofs.Placed.{placed}
use Rattle.cdf_unit_list.proofs.Entering.{after_between, unit_from}
use Rattle.cdf_unit_list.proofs.Agreement.{follows}

module _ (l : Layout) (s : List ℕ) where
  -- The unit starts at the position. The next position is a prefix further at least, and not past the end.
  abbrev pub Further : ℕ → Step → Type 0
  Further pos done = record {}
  Further pos (refused n at) = record {}
  Further pos (found u os later) = (pos + prefix_of l ≤ later) × (later ≤ length s) × (u.start ≡ pos)

  pub unit_further : (pos : ℕ) (root : Bool) (state : ℕ) (t : List ℕ) (around : ℕ → List Open) → length t ≤ length s - pos →
      Further pos (entered pos around (judge_of l root state t))
  unfolding entered
  unit_further pos root state t around h = go (judge_of l root state t) refl
    where
      go : (j : Judged) → judge_of l root state t ≡ j → Further pos (entered pos around j)
      go (Fault n k) e = record {}
      go (Found id action own len next) e =
          let p = placed l root state t e in
          let between = after_between (unit_from pos id action own len) (omega arith) in
          (omega arith, omega arith, refl)

  pub step_further : (pos : ℕ) (os : List Open) → Further pos (step l s os pos)
  unfolding step_by step_in_by
  step_further pos os = go (close os pos)
    where
      go : (c : Closing) → Further pos (step_in l s pos c)
      go (incomplete at) = record {}
      go (left []) = record {}
      go (left (o ∷ os)) =
          unit_further pos false o.state (take (o.end - pos) (drop pos s)) (λ state. with_state o state ∷ os)
          (simp (length-take, length-drop) (omega arith))

  few_from : (fuel : ℕ) (us : List Unit) (pos : ℕ) (x : Step) → length us * prefix_of l ≤ pos → pos ≤ length s → Further pos x →
      length (steps_from fuel l s x us).units * prefix_of l ≤ length s
  unfolding steps_from
  few_from zero us pos x p q f = simp length-reverse (omega arith)
  few_from (suc fuel) us pos done p q f = simp length-reverse (omega arith)
  few_from (suc fuel) us pos (refused n at) p q f = simp length-reverse (omega arith)
  few_from (suc fuel) us pos (found u os later) p q f =
      few_from fuel (u ∷ us) later (step l s os later) (simp suc-mul (omega arith)) f.1 (step_further later os)

  pub few : (root : Bool) (state : ℕ) → length (list_by l s (judge_of l root state s)).units * prefix_of l ≤ length s
  unfolding steps
  few root state =
      rw (← follows l s root state)
      (few_from (suc (length s)) [] 0 (entered 0 (λ state. []) (judge_of l root state s)) (omega arith) (omega arith)
      (unit_further 0 root state s (λ state. []) (omega arith)))
