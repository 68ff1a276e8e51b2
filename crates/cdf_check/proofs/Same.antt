-- The recursive check answers as the stack's steps do, and so as the unit list, for all bytes.
use Rattle.std.proofs.Common.{◌≡◌, refl, sym, ap, Bool, false, true, cond, List, [], ◌∷◌, ℕ, zero, suc, ◌≤◌, ◌<◌, ◌+◌, arith, ltb-true, ltb-false}
use Rattle.std.proofs.Common.{eq-eqb, ne_eqb, ltb, length, take, drop, length-drop}
use Rattle.std.proofs.lemmas.List.{length-reverse}
use lib.Seq.{take-length}
use Rattle.cdf_unit_prefix.specs.Layout.{Layout}
use Rattle.cdf_unit_table.specs.States.{opens, nothing, complete}
use Rattle.cdf_unit_judge.specs.Judge.{judge_of, Judged, Fault, Found}
use Rattle.cdf_unit_list.specs.Units.{End, unfinished, ended, fault, Listing, list_by}
use Rattle.cdf_unit_list.specs.Stack.{incomplete, close, Step, done, refused, found, entered, step_in, step, step_by}
use Rattle.cdf_unit_list.specs.Steps.{steps_from, steps}
use Rattle.cdf_unit_list.specs.Check.{answer_of, answer}
use Rattle.cdf_unit_list.specs.declared.Unit.{Unit}
use Rattle.cdf_unit_list.specs.declared.Open.{Open}
use Rattle.cdf_unit_judge.proofs.Placed.{placed}
use Rattle.cdf_unit_list.proofs.Agreement.{follows}
use Rattle.cdf_unit_list.proofs.Fuel.{finishes}
use Rattle.cdf_check.specs.Answers.{checked_by, checked_of, as_answer, Checked, Accepted, Refused}
use Rattle.cdf_check.specs.Walk.{Nested, finish, and_then, turn, walk, inside_of, front}
use Rattle.cdf_unit_table.specs.Heights.{height_in}
use Rattle.cdf_unit_table.proofs.Heights.{falls, opens_lower, height_most}
use Rattle.cdf_unit_table.proofs.Parts.{Part, left_of, part_of}

abbrev frame : ℕ → ℕ → ℕ → Open
frame state start end = record { state = state; start = start; end = end }

-- x is what the steps over s end with.
module _ (l : Layout) (s : List ℕ) (x : Listing) (finished : x.end ≡ unfinished → ⊥) where
  -- They come to this step after n units.
  record Comes (y : Step) (n : ℕ) : Type 0 where
    fuel : ℕ
    us : List Unit
    count : length us ≡ n
    same : x ≡ steps_from (suc fuel) l s y us

  stop : {k at n : ℕ} → Comes (refused k at) n → Refused k at ≡ checked_of x
  unfolding steps_from checked_of
  stop c = rw c.same

  end : {n : ℕ} → Comes done n → Accepted n ≡ checked_of x
  unfolding steps_from checked_of
  end c = rw (c.same, length-reverse, c.count)

  on : {u : Unit} {os : List Open} {pos n : ℕ} → Comes (found u os pos) n → Comes (step l s os pos) (n + 1)
  unfolding steps_from
  on {u} {os} {pos} {n} c = go c.fuel c.same
    where
      go : (f : ℕ) → x ≡ steps_from f l s (step l s os pos) (u ∷ c.us) → Comes (step l s os pos) (n + 1)
      go zero e = absurd (finished (ap (λ y. y.end) e))
      go (suc f) e = record { fuel = f; us = u ∷ c.us; count = omega (arith, c.count); same = e }

  -- What a check's answer tells of them: x ends so, or they come to the position after so many units, with these open.
  abbrev Tells : Checked → List Open → ℕ → Type 0
  Tells (Accepted n) os pos = Comes (step l s os pos) n
  Tells (Refused k at) os pos = Refused k at ≡ checked_of x

  after_tells : (more : ℕ → Checked) (r : Checked) (os ps : List Open) (pos end : ℕ) → Tells r os pos →
      ((n : ℕ) → Comes (step l s os pos) n → Tells (more n) ps end) → Tells (and_then more r) ps end
  unfolding and_then
  after_tells more (Accepted n) os ps pos end h g = g n h
  after_tells more (Refused k at) os ps pos end h g = h

  -- The unit at a position, then what follows it.
  turn_tells : (nested : Nested) (more : ℕ → ℕ → ℕ → Checked) (pos n : ℕ) (t : List ℕ) (around : ℕ → List Open)
      (ps : List Open) (end : ℕ) (j : Judged) → Comes (entered pos around j) n →
      ((id action own len state : ℕ) → j ≡ Found id action own len state →
      (opens id ≡ true → Comes (step l s (frame (nothing id) pos (pos + len) ∷ around state) (pos + own)) (n + 1) →
      Tells (nested (take len t) (nothing id) pos own (n + 1)) (around state) (pos + len))
      × ((m : ℕ) → Comes (step l s (around state) (pos + len)) m → Tells (more state len m) ps end)) →
      Tells (turn nested more pos n t j) ps end
  unfolding turn entered
  turn_tells nested more pos n t around ps end (Fault k at) c laws = stop c
  turn_tells nested more pos n t around ps end (Found id action own len state) c laws =
      let law = laws id action own len state refl in
      after_tells (more state len) (cond (opens id) (nested (take len t) (nothing id) pos own (n + 1)) (Accepted (n + 1)))
      (around state) ps (pos + len) end (go (opens id) refl law.0 (on c)) law.1
    where
      go : (b : Bool) → opens id ≡ b →
          (opens id ≡ true → Comes (step l s (frame (nothing id) pos (pos + len) ∷ around state) (pos + own)) (n + 1) →
          Tells (nested (take len t) (nothing id) pos own (n + 1)) (around state) (pos + len)) →
          Comes
          (step l s (cond b (frame (nothing id) pos (pos + len) ∷ around state) (around state))
          (cond b (pos + own) (pos + len)))
          (n + 1) →
          Tells (cond b (nested (take len t) (nothing id) pos own (n + 1)) (Accepted (n + 1))) (around state) (pos + len)
      go true o law c = law o c
      go false o law c = c

  -- The steps at a unit's end, and at a place before it.
  step_end : (base end state : ℕ) (os : List Open) →
      step l s (frame state base end ∷ os) end ≡ step_in l s end (cond (complete state) (close os end) (incomplete base))
  unfolding step_by close
  step_end base end state os = rw (eq-eqb end end refl)

  step_in_lem : (base len state at : ℕ) (os : List Open) (t : List ℕ) → Part s base len t → at < len →
      step l s (frame state base (base + len) ∷ os) (base + at)
      ≡ entered (base + at) (λ next. frame next base (base + len) ∷ os) (judge_of l false state (drop at t))
  unfolding step_by close
  step_in_lem base len state at os t p h =
      rw (ne_eqb (base + len) (base + at) (λ e. omega arith), left_of s base len t p at)

  finish_tells : (base end state n : ℕ) (os : List Open) → Comes (step l s (frame state base end ∷ os) end) n →
      Tells (finish base state n) os end
  unfolding step_by
  finish_tells base end state n os c = go (complete state) (rw step_end at c)
    where
      go : (b : Bool) → Comes (step_in l s end (cond b (close os end) (incomplete base))) n →
          Tells (cond b (Accepted n) (Refused 10 base)) os end
      go true c = c
      go false c = stop c

  -- The check of what a unit holds, with these levels.
  abbrev Insides : ℕ → Type 0
  Insides levels =
      (state base len body n : ℕ) (t : List ℕ) (os : List Open) → Part s base len t → body ≤ len → height_in state < levels →
      Comes (step l s (frame state base (base + len) ∷ os) (base + body)) n →
      Tells (inside_of l levels t state base body n) os (base + len)

  module _ (levels : ℕ) (insides : Insides levels) (base len : ℕ) (t : List ℕ) (os : List Open) (p : Part s base len t) where
    abbrev Walks : ℕ → Type 0
    Walks fuel =
        (state at n : ℕ) → height_in state ≤ levels → at ≤ len → len ≤ at + fuel →
        Comes (step l s (frame state base (base + len) ∷ os) (base + at)) n →
        Tells (walk l (inside_of l levels) fuel t base state at n) os (base + len)

    at_end_lem : (state at n : ℕ) → at ≤ len → len ≤ at → Comes (step l s (frame state base (base + len) ∷ os) (base + at)) n →
        Tells (finish base state n) os (base + len)
    at_end_lem state at n a e c = let same : at ≡ len = omega arith in finish_tells base (base + len) state n os (rw same at c)

    walk_tells : (fuel : ℕ) → Walks fuel
    unfolding walk
    walk_tells zero state at n r a e c = at_end_lem state at n a (omega arith) c
    walk_tells (suc fuel) state at n r a e c = go (ltb at (length t)) refl (walk_tells fuel)
      where
        go : (b : Bool) → ltb at (length t) ≡ b → Walks fuel →
            Tells
            (cond b
            (turn (inside_of l levels) (λ next k m. walk l (inside_of l levels) fuel t base next (at + k) m) (base + at) n (drop at t)
            (judge_of l false state (drop at t)))
            (finish base state n))
            os (base + len)
        go true h walks =
            turn_tells (inside_of l levels) (λ next k m. walk l (inside_of l levels) fuel t base next (at + k) m) (base + at) n (drop at t)
            (λ next. frame next base (base + len) ∷ os) os (base + len) (judge_of l false state (drop at t))
            (rw (step_in_lem base len state at os t p (omega (arith, ltb-true at (length t) h, p.long))) at c)
            (λ child action own k next q.
            let z = placed l false state (drop at t) q in
            let d = length-drop at t in
            let w = falls state child next z.may z.some in (
              λ o. insides (nothing child) (base + at) k own (n + 1) (take k (drop at t)) (frame next base (base + len) ∷ os)
                  (part_of s base len t p at k z.high) z.inside (omega (arith, (opens_lower child o).same)),
              λ m c.
                  let sum : base + at + k ≡ base + (at + k) = omega arith in
                  walks next (at + k) m (omega arith) (omega arith) (omega arith) (rw sum at c),
            ))
        go false h walks = at_end_lem state at n a (omega (arith, ltb-false at (length t) h, p.long)) c

  inside_tells : (levels : ℕ) → Insides levels
  unfolding inside_of
  inside_tells zero state base len body n t os p h r c = absurd (omega arith)
  inside_tells (suc levels) state base len body n t os p h r c =
      walk_tells levels (inside_tells levels) base len t os p (length t) state body n (omega arith) h
      (omega (arith, p.long)) c

  whole : (r : Checked) (pos : ℕ) → Tells r [] pos → r ≡ checked_of x
  unfolding step_by close
  whole (Accepted n) pos c = end c
  whole (Refused k at) pos e = e

-- The check of the unit at the front, judged as a stream's root (`true`) or one level down.
pub same : (l : Layout) (root : Bool) (state : ℕ) (s : List ℕ) →
    front l s (judge_of l root state s) ≡ checked_of (list_by l s (judge_of l root state s))
unfolding front steps step_by close
same l root state s =
    let j = judge_of l root state s in
    let x = list_by l s j in
    let f = finishes l s root state in
    whole l s x f (front l s j) 0
    (turn_tells l s x f (inside_of l 5) (λ next len n. Accepted n) 0 0 s (λ state. []) [] 0 j
    (record { fuel = length s; us = []; count = refl; same = sym (follows l s root state) })
    (λ id action own len next q.
    let z = placed l root state s q in (
      λ o. inside_tells l s x f 5 (nothing id) 0 len own 1 (take len s) []
          (part_of s 0 (length s) s (record { long = refl; is = sym (take-length s) }) 0 len z.high) z.inside
          (omega (arith, (opens_lower id o).same, height_most id)),
      λ m c. c,
    )))

-- The number and value of a case.
pub case_answer : (x : Listing) → as_answer (checked_of x) ≡ answer x
unfolding as_answer checked_of answer
case_answer x = go x.end
  where
    go : (e : End) → as_answer (checked_by (length x.units) e) ≡ answer_of (length x.units) e
    go unfinished = refl
    go ended = refl
    go (fault k at) = refl

-- The same in document 01's numbers.
pub answer_same : (l : Layout) (root : Bool) (state : ℕ) (s : List ℕ) →
    as_answer (front l s (judge_of l root state s)) ≡ answer (list_by l s (judge_of l root state s))
answer_same l root state s = rw (same l root state s) (case_answer (list_by l s (judge_of l root state s)))
