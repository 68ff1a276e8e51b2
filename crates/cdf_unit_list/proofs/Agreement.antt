-- The steps over a stack of open units give the unit list.
use Rattle.std.proofs.Common.{◌≡◌, refl, ◌∙◌, Bool, true, false, cond, List, [], ◌∷◌, map, ℕ, zero, suc, ◌-◌, ◌≤◌, arith, eqb, length, take, drop}
use Rattle.std.proofs.Common.{length-take}
use Rattle.std.proofs.lemmas.List.{length-map}
use Rattle.cdf_unit_prefix.specs.Layout.{Layout}
use Rattle.cdf_unit_table.specs.States.{admits, complete}
use Rattle.cdf_unit_judge.specs.Judge.{judge_of, Judged, Fault, Found}
use Rattle.cdf_unit_list.specs.Units.{after, parents_that, open_at, state_of, Next, whole, broken, listed, unit_at, within}
use Rattle.cdf_unit_list.specs.Units.{or_else, next_at, next, go_on, list_from, list_by}
use Rattle.cdf_unit_list.specs.Stack.{Closing, incomplete, left, close, Step, done, refused, found, entered, with_state, step_in, step, step_by, step_in_by}
use Rattle.cdf_unit_list.specs.Steps.{steps_from, steps}
use Rattle.cdf_unit_list.specs.declared.Unit.{Unit}
use Rattle.cdf_unit_list.specs.declared.Open.{Open}
use Rattle.cdf_unit_judge.proofs.Placed.{placed}
use Rattle.cdf_unit_list.proofs.Nested.{Nested}
use Rattle.cdf_unit_list.proofs.StatesListed.{open_of, Before, inner_state, outer_open}
use Rattle.cdf_unit_list.proofs.Closing.{Closes, stops, leaves, closes}
use Rattle.cdf_unit_list.proofs.Entering.{Bounded, Follow, Enters, enter, opened_bounded, unit_from}
use Rattle.cdf_unit_table.proofs.Heights.{falls, opens_lower, height_most}

-- What comes next after the units listed so far, of the list and of the steps.
pub data Agrees (us : List Unit) : Next → Step → Type 0 where
  both_end : Agrees us whole done
  both_refuse : {n at : ℕ} → Agrees us (broken n at) (refused n at)
  both_list : {u : Unit} {os : List Open} → length (open_at u.start us) ≤ 4 → Follow (u ∷ us) os (after u) →
      Agrees us (listed u) (found u os (after u))

unit_agrees : (us : List Unit) (pos : ℕ) (around : ℕ → List Open) (j : Judged) →
    ((id action own len state : ℕ) → j ≡ Found id action own len state → Enters us (around state) (unit_from pos id action own len)) →
    Agrees us (unit_at pos j) (entered pos around j)
unfolding unit_at entered
unit_agrees us pos around (Fault n k) enters = both_refuse
unit_agrees us pos around (Found id action own len state) enters =
    let e = enters id action own len state refl in
    both_list e.shallow (enter us (around state) (unit_from pos id action own len) e)

module _ (l : Layout) (s : List ℕ) where
  pub within_agrees : (us : List Unit) (pos : ℕ) → Before pos us → (ws : List Unit) → open_at pos us ≡ ws → Nested pos (suc pos) ws →
      Bounded (map (open_of us) ws) → Agrees us (within l s us pos ws) (step_in l s pos (left (map (open_of us) ws)))
  unfolding within step_in_by with_state admits
  within_agrees us pos before [] e h heights = both_end
  within_agrees us pos before (o ∷ ws) e h heights =
      let rest = take (o.end - pos) (drop pos s) in
      let few = length-take (o.end - pos) (drop pos s) in
      unit_agrees us pos (λ state. with_state (open_of us o) state ∷ map (open_of us) ws) (judge_of l false (state_of us o) rest)
      (λ id action own len state q.
      let p = placed l false (state_of us o) rest q in
      let v = unit_from pos id action own len in
      let w = falls (state_of us o) id state p.may p.some in
      let long = length-map ws (open_of us) in
      let around = with_state (open_of us o) state ∷ map (open_of us) ws in
      record {
        own = omega arith;
        end = omega arith;
        around = rw (e, inner_state v us o ws e ∙ p.may, outer_open v us o ws e ws o.end h.2);
        nested = rw e (h.0, omega arith, h.2);
        before = before;
        bounded = opened_bounded v around (λ x. omega (arith, (opens_lower id x).same)) (omega arith, heights.1);
        shallow = rw e (omega arith);
      })

  -- Closing takes units off the stack, and no more.
  abbrev pub OfClosing : Closing → Type 0
  OfClosing (incomplete at) = record {}
  OfClosing (left os) = Bounded os

  pub close_bounded : (os : List Open) (pos : ℕ) → Bounded os → OfClosing (close os pos)
  unfolding close
  close_bounded [] pos h = record {}
  close_bounded (o ∷ os) pos h = go (eqb o.end pos) (complete o.state) (close_bounded os pos h.1)
    where
      go : (a b : Bool) → OfClosing (close os pos) →
          OfClosing (cond a (cond b (close os pos) (incomplete o.start)) (left (o ∷ os)))
      go true true c = c
      go true false c = record {}
      go false b c = h

  pub next_agrees : (us : List Unit) (os : List Open) (pos : ℕ) → Follow us os pos → Agrees us (next_at l s us pos) (step l s os pos)
  unfolding next_at or_else step_by step_in_by
  next_agrees us os pos f =
      rw f.stack (go (closes us pos us f.nested) (rw f.stack at (close_bounded os pos f.bounded)))
    where
      go : {n : Next} {c : Closing} → Closes us pos (open_at pos us) n c → OfClosing c →
          Agrees us (or_else n (within l s us pos (open_at pos us))) (step_in l s pos c)
      go stops heights = both_refuse
      go (leaves h) heights = within_agrees us pos f.before (open_at pos us) refl h heights

  steps_agree : (fuel : ℕ) (first : Judged) (us : List Unit) (x : Step) → Agrees us (next l s first us) x →
      steps_from fuel l s x us ≡ list_from fuel l s first us
  unfolding steps_from list_from go_on next
  steps_agree zero first us x a = refl
  steps_agree (suc fuel) first us x a =
      go a (λ v os f. steps_agree fuel first (v ∷ us) (step l s os (after v)) (next_agrees (v ∷ us) os (after v) f))
    where
      go : {n : Next} {x : Step} → Agrees us n x →
          ((v : Unit) (os : List Open) → Follow (v ∷ us) os (after v) →
          steps_from fuel l s (step l s os (after v)) (v ∷ us) ≡ list_from fuel l s first (v ∷ us)) →
          steps_from (suc fuel) l s x us ≡ go_on (list_from fuel l s first) us n
      go both_end more = refl
      go both_refuse more = refl
      go (both_list {u = v} {os = os} shallow f) more = more v os f

  -- The first unit: nothing is open around it.
  pub first_agrees : (root : Bool) (state : ℕ) → Agrees [] (unit_at 0 (judge_of l root state s)) (entered 0 (λ state. []) (judge_of l root state s))
  unfolding open_at parents_that
  first_agrees root state =
      unit_agrees [] 0 (λ state. []) (judge_of l root state s) (λ id action own len next q.
      let p = placed l root state s q in
      let v = unit_from 0 id action own len in
      record {
        own = omega arith;
        end = omega arith;
        around = refl;
        nested = record {};
        before = record {};
        bounded = opened_bounded v [] (λ x. omega (arith, (opens_lower id x).same, height_most id)) (record {});
        shallow = omega arith;
      })

  pub follows : (root : Bool) (state : ℕ) → steps l s (judge_of l root state s) ≡ list_by l s (judge_of l root state s)
  unfolding steps list_by next
  follows root state = steps_agree (suc (length s)) (judge_of l root state s) [] _ (first_agrees root state)
