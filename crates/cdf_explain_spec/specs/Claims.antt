-- What is claimed of what the tool tells. The term of this record stands in proofs/Proved.
use Rattle.std.specs.Prelude.{ℕ, suc, ◌+◌, ◌-◌, ◌≤◌, ◌<◌, ◌≡◌, true, false, List, [], ◌∷◌, ◌++◌, reverse, ◌⊎◌, ◌↔◌, length, set}
use Rattle.cdf_unit_table.specs.Ids.{member}
use Rattle.cdf_unit_table.specs.States.{opens}
use Rattle.cdf_unit_prefix.specs.Layout.{Layout, prefix_of}
use Rattle.cdf_unit_prefix.specs.Rules.{head_of, Prefix}
use Rattle.cdf_unit_judge.specs.Judge.{judge_of, Fault}
use Rattle.cdf_unit_list.specs.Units.{after, state_of, listing}
use Rattle.cdf_unit_list.specs.Check.{check_of}
use Rattle.cdf_unit_list.specs.declared.Unit.{Unit}
use Rattle.cdf_explain_spec.specs.Why.{nothing_wrong, why_of}
use Rattle.cdf_explain_spec.specs.Samples.{samples_found, samples_due}

-- Each of the units lies inside the one before it: it starts later and does not end later.
abbrev pub Inwards : List Unit → Type 0
Inwards [] = record {}
Inwards (u ∷ []) = record {}
Inwards (u ∷ v ∷ us) = (u.start < v.start) × (v.end ≤ u.end) × Inwards (v ∷ us)

-- The unit is one of these.
pub data OneOf (u : Unit) : List Unit → Type 0 where
  here : {us : List Unit} → OneOf u (u ∷ us)
  there : {v : Unit} {us : List Unit} → OneOf u us → OneOf u (v ∷ us)

-- Each of the units has this.
abbrev pub Each : (Unit → Type 0) → List Unit → Type 0
Each P [] = record {}
Each P (u ∷ us) = P u × Each P us

abbrev pub Refused : Layout → List ℕ → Type 0
Refused l s = (check_of l s).number ≡ 0 → ⊥

-- Where the refused unit stands or would stand: behind the last listed unit, and at the front where none is listed. At 10 it is where the
-- incomplete unit ends.
abbrev pub behind : List Unit → ℕ
behind [] = 0
behind (u ∷ us) = after u

abbrev pub point_of : Layout → List ℕ → ℕ
point_of l s = behind (reverse (listing l s).units)

-- The unit is or lies around what goes from `start` to `end`.
abbrev pub Spans : ℕ → ℕ → Unit → Type 0
Spans start end u = (u.start ≤ start) × (end ≤ u.end)

-- A listed unit that admits others is open at the point: it starts before it and ends behind it; or the check gives 10, and the unit is or lies
-- around the incomplete one, which starts at the offset.
abbrev pub OpenAt : Layout → List ℕ → ℕ → Unit → Type 0
OpenAt l s point u =
    OneOf u (listing l s).units × (opens u.id ≡ true) × (u.start < point)
    × ((point < u.end) ⊎ (((check_of l s).number ≡ 10) × Spans (check_of l s).value point u))

-- The unit is the last of these.
abbrev pub Last : Unit → List Unit → Type 0
Last u us = (outer : List Unit) × (us ≡ outer ++ (u ∷ []))

-- The bytes with this id in the prefix at a position.
abbrev pub with_id : Layout → ℕ → ℕ → List ℕ → List ℕ
with_id l at id s = set s (at + (prefix_of l - 1)) id

-- The numbers rise, from a on and below b.
abbrev pub Rising : ℕ → ℕ → List ℕ → Type 0
Rising a b [] = a ≤ b
Rising a b (x ∷ xs) = (a ≤ x) × Rising (suc x) b xs

pub record Claims : Type 0 where
  -- K1 to K12 and three more, computed.
  pub samples : samples_found ≡ samples_due
  -- Of bytes that the check accepts nothing is wrong,
  pub accepted : (l : Layout) (s : List ℕ) → (check_of l s).number ≡ 0 → why_of l s ≡ nothing_wrong
  -- and of any others the number and the offset are the check's.
  pub refused : (l : Layout) (s : List ℕ) → Refused l s →
      ((why_of l s).number ≡ (check_of l s).number) × ((why_of l s).offset ≡ (check_of l s).value)
  -- The open units are listed, each lies inside the one before it, and there are at most four.
  pub listed : (l : Layout) (s : List ℕ) → Each (λ u. OneOf u (listing l s).units) (why_of l s).units
  pub inside : (l : Layout) (s : List ℕ) → Inwards (why_of l s).units
  pub four : (l : Layout) (s : List ℕ) → length (why_of l s).units ≤ 4
  -- Of refused bytes the offset is the point, but for 9 and 10.
  pub stands : (l : Layout) (s : List ℕ) → Refused l s → ((check_of l s).number ≡ 9 → ⊥) → ((check_of l s).number ≡ 10 → ⊥) →
      (check_of l s).value ≡ point_of l s
  -- Of refused bytes a unit is told exactly if it is open at the point,
  pub told : (l : Layout) (s : List ℕ) → Refused l s → (u : Unit) → OneOf u (why_of l s).units ↔ OpenAt l s (point_of l s) u
  -- and at 10 the last of them is the incomplete one: it starts at the offset, and ends at the point.
  pub incomplete : (l : Layout) (s : List ℕ) → (check_of l s).number ≡ 10 →
      (u : Unit) × Last u (why_of l s).units × (u.start ≡ (check_of l s).value) × (u.end ≡ point_of l s)
  -- The ids rise, and are of 1 to 14.
  pub rising : (l : Layout) (s : List ℕ) → Rising 1 15 (why_of l s).ids
  -- An id is told exactly if a unit of it would not get 7 there: so any bytes that pass 3 to 6, judged in the last of the open units,
  pub nested : (l : Layout) (s : List ℕ) (o : Unit) → Last o (why_of l s).units → (t : List ℕ) (id action len : ℕ) →
      head_of l false t ≡ Prefix id action len →
      (judge_of l false (state_of (reverse (listing l s).units) o) t ≡ Fault 7 0) ↔ (member id (why_of l s).ids ≡ false)
  -- and where the start is refused, judged as a root.
  pub rooted : (l : Layout) (s : List ℕ) → (listing l s).units ≡ [] → (t : List ℕ) (id action len : ℕ) → head_of l true t ≡ Prefix id action len →
      (judge_of l true 0 t ≡ Fault 7 0) ↔ (member id (why_of l s).ids ≡ false)
  -- Where the refused unit itself passes 3 to 6, the check says so: with any id in the place of its own, it gives 7 at the point exactly if that
  -- id is not told.
  pub exchanged : (l : Layout) (s : List ℕ) → 7 ≤ (check_of l s).number → (check_of l s).number ≤ 9 → (id : ℕ) → 1 ≤ id → id ≤ 14 →
      (check_of l (with_id l (point_of l s) id s) ≡ record { number = 7; value = point_of l s }) ↔ (member id (why_of l s).ids ≡ false)
  -- Of a refused start nothing is open, and the ids that a root may have are told.
  pub start : (l : Layout) (s : List ℕ) → (listing l s).units ≡ [] →
      ((why_of l s).units ≡ []) × ((why_of l s).ids ≡ 1 ∷ 4 ∷ 13 ∷ [])
  -- An incomplete unit admits something.
  pub ten : (l : Layout) (s : List ℕ) → (why_of l s).number ≡ 10 → (why_of l s).ids ≡ [] → ⊥
