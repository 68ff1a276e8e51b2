-- The walk over the places of a unit, turn by turn, as the loop of `check_inside` takes them, a unit as `check_unit` takes it, and
-- the unit at the front.
use Rattle.std.proofs.Common.{◌≡◌, refl, sym, ◌∙◌, Bool, false, true, cond, List, ℕ, zero, suc, ◌≤◌, ◌<◌, ◌+◌, ◌-◌, arith, sub-one, lt-ltb, le-ltb}
use Rattle.std.proofs.Common.{length, take, drop, length-drop}
use Rattle.cdf_unit_prefix.specs.Layout.{Layout, prefix_of}
use Rattle.cdf_unit_prefix.specs.Rules.{head_of, Head, Stop, Prefix}
use Rattle.cdf_unit_table.specs.States.{admit, admits, opens, nothing, complete}
use Rattle.cdf_unit_judge.specs.Judge.{body_of, found_by, judge_of, Body, Action, Data, Whole, Judged, Fault, Found}
use Rattle.std.specs.Prelude.{Err}
use Rattle.cdf_unit_judge.specs.declared.BodyFault.{BodyFault}
use Rattle.cdf_unit_judge.specs.declared.BodyFault.TheVariants.{Action as BadAction, Data as BadData}
use Rattle.cdf_unit_judge.specs.Answers.{bodied, byte_of, fault_of}
use Rattle.cdf_unit_judge.proofs.Placed.{fault_fits}
use Rattle.cdf_unit_judge.proofs.Stages as stages
use Rattle.cdf_unit_judge.proofs.Stages.{bounds}
use Rattle.cdf_check.specs.Walk.{Nested, finish, and_then, turn, walk, inside_of, unit_by, checked_unit, front}
use Rattle.cdf_unit_table.specs.Heights.{height, height_in}
use Rattle.cdf_check.specs.Answers.{Checked, Accepted, Refused, checked}
use Rattle.cdf_unit_table.proofs.Heights.{falls}
use Rattle.cdf_unit_table.proofs.Parts.{minus_plus, drop-take}
use Rattle.cdf_unit_table.proofs.Rows.{admits_nested, opens_by, leaf_by}
use Rattle.cdf_unit_table.proofs.Bools.{clash}

-- What the loop keeps: the walk from here, with fuel enough for what is left, answers as the whole check.
pub record Going (l : Layout) (levels : ℕ) (s : List ℕ) (state base body count at now n : ℕ) : Type 0 where
  pub within : at ≤ length s
  pub few : n ≤ base + at
  pub low : height_in now < levels
  pub fuel : ℕ
  pub enough : length s ≤ at + fuel
  pub same : inside_of l levels s state base body count ≡ walk l (inside_of l (levels - 1)) fuel s base now at n

pub begun : (l : Layout) (levels : ℕ) (s : List ℕ) (state base body count : ℕ) → height_in state < levels → body ≤ length s →
    count ≤ base + body → Going l levels s state base body count body state count
unfolding inside_of
begun l zero s state base body count r h k = absurd (omega arith)
begun l (suc levels) s state base body count r h k =
    record { within = h; few = k; low = r; fuel = length s; enough = omega arith; same = rw (sub-one (suc levels)) }

module _ (l : Layout) (nested : Nested) (s : List ℕ) (base now at n : ℕ) where
  turned : (fuel : ℕ) → at < length s → length s ≤ at + fuel → {j : Judged} → judge_of l false now (drop at s) ≡ j →
      walk l nested fuel s base now at n
      ≡ turn nested (λ next len m. walk l nested (fuel - 1) s base next (at + len) m) (base + at) n (drop at s) j
  unfolding walk
  turned zero h k e = absurd (omega arith)
  turned (suc fuel) h k e = rw (lt-ltb at (length s) h, e, sub-one (suc fuel))

  ended : (fuel : ℕ) → length s ≤ at → walk l nested fuel s base now at n ≡ finish base now n
  unfolding walk
  ended zero h = refl
  ended (suc fuel) h = rw (le-ltb at (length s) h)

-- A unit that the loop judges by its prefix and admission, and `check_unit` by its action and own data.
by_body : (l : Layout) (nested : Nested) (more : ℕ → ℕ → ℕ → Checked) (pos n : ℕ) (s : List ℕ) (id action len next : ℕ) (c : Body) →
    turn nested more pos n s (found_by l id action len next c) ≡ and_then (more next len) (unit_by l nested (take len s) id pos n c)
unfolding turn found_by unit_by and_then
by_body l nested more pos n s id action len next Action = let start : pos + 0 ≡ pos = omega arith in rw start
by_body l nested more pos n s id action len next (Data k) =
    let place : pos + (prefix_of l + k) ≡ pos + prefix_of l + k = omega arith in
    rw place
by_body l nested more pos n s id action len next (Whole k) = refl

-- Where a unit lies that stands at a place, and how it heights.
pub record Lies (l : Layout) (levels : ℕ) (s : List ℕ) (at child len next : ℕ) : Type 0 where
  pub room : prefix_of l ≤ len
  pub high : at + len ≤ length s
  pub deeper : height child < levels - 1
  pub after : height_in next < levels

-- What the contracts promise of an answer: what it is, and how many units there can be.
abbrev Answers : Checked → ℕ → Checked → Type 0
Answers x most r = (r ≡ x) × ((m : ℕ) → r ≡ Accepted m → m ≤ most)

refusal : {x : Checked} {k o : ℕ} (most : ℕ) → x ≡ Refused k o → Answers x most (Refused k o)
refusal most e = (sym e, λ m q. clash cc)

module _ {l : Layout} {levels : ℕ} {s : List ℕ} {state base body count at now n : ℕ}
    (g : Going l levels s state base body count at now n) where
  abbrev Inside : Checked → Type 0
  Inside r = Answers (inside_of l levels s state base body count) (base + length s) r

  pub finished : length s ≤ at → (b : Bool) → complete now ≡ b → Inside (cond b (Accepted n) (Refused 10 base))
  finished h b e = go b (rw e at (g.same ∙ ended l (inside_of l (levels - 1)) s base now at n g.fuel h))
    where
      go : (b : Bool) → inside_of l levels s state base body count ≡ cond b (Accepted n) (Refused 10 base) →
          Inside (cond b (Accepted n) (Refused 10 base))
      go true e = (sym e, λ m q. let same : n ≡ m = cc in omega (arith, g.few, g.within))
      go false e = refusal (base + length s) e

  -- x is what the prefix says that stands there.
  module _ (h : at < length s) (x : Head) (is : x ≡ head_of l false (drop at s)) where
    turns : {j : Judged} → j ≡ judge_of l false now (drop at s) →
        inside_of l levels s state base body count
        ≡ turn (inside_of l (levels - 1)) (λ next len m. walk l (inside_of l (levels - 1)) (g.fuel - 1) s base next (at + len) m)
        (base + at) n (drop at s) j
    turns e = g.same ∙ turned l (inside_of l (levels - 1)) s base now at n g.fuel h g.enough (sym e)

    here : {k : ℕ} → Fault k 0 ≡ judge_of l false now (drop at s) → Inside (Refused k (base + at))
    unfolding turn
    here e = let start : base + at + 0 ≡ base + at = omega arith in refusal (base + length s) (rw start at (turns e))

    pub stopped : {k : ℕ} → x ≡ Stop k → Inside (Refused k (base + at))
    stopped e = here (stages.stopped l false (drop at s) x is _ (admits false now) e ∙ stages.in_is _ l false now (drop at s))

    -- `next` is the enclosing unit's state once it has had this one.
    module _ {id action len : ℕ} (e : x ≡ Prefix id action len) (next : ℕ) (may : next ≡ admit now id) where
      admits_it : next ≡ admits false now id
      admits_it = may ∙ sym (admits_nested now id)

      pub not_here : next ≡ 0 → Inside (Refused 7 (base + at))
      not_here none = here (stages.refused l false (drop at s) x is _ (admits false now) e next admits_it none ∙ stages.in_is _ l false now (drop at s))

      module _ (some : next ≡ 0 → ⊥) where
        pub lies : Lies l levels s at id len next
        lies =
            let z = bounds l false (drop at s) x is e in
            let w = falls now id next (sym admits_it) some in
            let d = length-drop at s in
            let r = g.low in
            record { room = z.0; high = omega arith; deeper = omega arith; after = omega arith }

        -- What the check of the unit's own part of s answers.
        abbrev nested : Checked
        nested = checked_unit l (levels - 1) (take (at + len - at) (drop at s)) id action (base + at) n

        answers : inside_of l levels s state base body count
            ≡ and_then (λ m. walk l (inside_of l (levels - 1)) (g.fuel - 1) s base next (at + len) m) nested
        unfolding checked_unit
        answers =
            turns
            (stages.admitted l false (drop at s) x is _ (admits false now) e next admits_it some (prefix_of l) refl ∙ stages.in_is _ l false now (drop at s))
            ∙ rw (minus_plus len at, drop-take (prefix_of l) len (drop at s))
            (by_body l (inside_of l (levels - 1)) _ (base + at) n (drop at s) id action len next _)

        pub stopped_inside : {r : Checked} → r ≡ nested → {k o : ℕ} → r ≡ Refused k o → Inside (Refused k o)
        unfolding and_then
        stopped_inside q f = refusal (base + length s) (answers ∙ rw (← q, f))

        pub on : {r : Checked} → r ≡ nested → {m : ℕ} → r ≡ Accepted m → m ≤ base + (at + len) →
            Going l levels s state base body count (at + len) next m
        unfolding and_then
        on q {m} f few =
            let z = lies in
            record {
              within = z.high;
              few = few;
              low = z.after;
              fuel = g.fuel - 1;
              enough = omega (arith, g.enough);
              same = answers ∙ rw (← q, f);
            }

-- The byte of a body's fault lies in the bytes that were judged.
pub byte_fits : (id action : ℕ) (t : List ℕ) (f : BodyFault) → body_of id action t ≡ bodied (Err f) → byte_of f ≤ length t
byte_fits id action t BadAction e = omega arith
byte_fits id action t (BadData k) e = fault_fits _ id action t k e

-- The unit s, as `check_unit` takes it: its prefix has p bytes, and c is what its action and own data are found to be.
module _ (l : Layout) (levels : ℕ) (s : List ℕ) (id action base n p : ℕ) (prefixed : p ≡ prefix_of l) (c : Body)
    (is : c ≡ body_of id action (drop p s)) where
  abbrev Alone : Checked → Type 0
  Alone r = Answers (checked_unit l levels s id action base n) (base + length s) r

  by : {d : Body} → c ≡ d → checked_unit l levels s id action base n ≡ unit_by l (inside_of l levels) s id base n d
  unfolding checked_unit
  by e = rw (← prefixed, ← is, e)

  no_action : c ≡ Action → Alone (Refused 8 base)
  unfolding unit_by
  no_action e = refusal (base + length s) (by e)

  no_data : {k : ℕ} → c ≡ Data k → Alone (Refused 9 (base + p + k))
  unfolding unit_by
  no_data e = rw prefixed (refusal (base + length s) (by e))

  -- As the code tells a body's fault.
  pub no_body : (f : BodyFault) → c ≡ bodied (Err f) → Alone (checked (Err (fault_of base (base + p) f)))
  no_body BadAction e = no_action e
  no_body (BadData k) e = no_data e

  -- `first` is the unit's first state, if it admits others.
  module _ {k : ℕ} (e : c ≡ Whole k) (first : ℕ) (begins : first ≡ nothing id) where
    pub leaf : n < base + length s → first ≡ 0 → Alone (Accepted (n + 1))
    unfolding unit_by
    leaf few none = (sym (by e ∙ rw (leaf_by id first begins none)), λ m q. let same : n + 1 ≡ m = cc in omega arith)

    pub holds : (first ≡ 0 → ⊥) → {r : Checked} → Answers (inside_of l levels s first base (p + k) (n + 1)) (base + length s) r → Alone r
    unfolding unit_by
    holds some a = (a.0 ∙ sym (by e ∙ rw (opens_by id first begins some, ← begins, ← prefixed)), a.1)

-- The unit at the front, as `check_front` takes it.
module _ (l : Layout) (s : List ℕ) where
  pub front_stopped : {j : Judged} {k o : ℕ} → j ≡ Fault k o → Refused k o ≡ front l s j
  unfolding front turn
  front_stopped {k = k} {o = o} e = let none : 0 + o ≡ o = omega arith in rw (e, none)

  pub front_found : {j : Judged} {id action own len next : ℕ} {r : Checked} → j ≡ Found id action own len next →
      r ≡ cond (opens id) (inside_of l 5 (take len s) (nothing id) 0 own 1) (Accepted 1) → r ≡ front l s j
  unfolding front turn and_then
  front_found e q = q ∙ rw e (sym (last _))
    where
      last : (r : Checked) → and_then (λ n. Accepted n) r ≡ r
      last (Accepted n) = refl
      last (Refused k at) = refl
