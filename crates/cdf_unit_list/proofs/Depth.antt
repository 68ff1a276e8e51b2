-- No listed unit is deeper than five.
use Rattle.std.proofs.Common.{ℕ, zero, suc, ◌≤◌, Bool, List, [], ◌∷◌, reverse, arith, length, get_or}
use Rattle.std.proofs.lemmas.List.{reverse-reverse}
use mathlib.Core.List.{reverse_aux}
use Rattle.cdf_unit_prefix.specs.Layout.{Layout}
use Rattle.cdf_unit_judge.specs.Judge.{judge_of, Judged}
use Rattle.cdf_unit_list.specs.Units.{open_at, after, Next, next, go_on, list_from, list_by, depths}
use Rattle.cdf_unit_list.specs.Stack.{Step}
use Rattle.cdf_unit_list.specs.declared.Unit.{Unit}
use Rattle.cdf_unit_list.specs.declared.Open.{Open}
use Rattle.cdf_unit_list.proofs.Entering.{Follow}
use Rattle.cdf_unit_list.proofs.Agreement.{Agrees, both_end, both_refuse, both_list, first_agrees, next_agrees}

-- What holds of each unit and those before it; the last one first.
abbrev pub Each : (List Unit → Unit → Type 0) → List Unit → Type 0
Each P [] = record {}
Each P (v ∷ us) = P us v × Each P us

pub earlier : (P : List Unit → Unit → Type 0) (vs us : List Unit) → Each P (reverse_aux vs us) → Each P us
earlier P [] us h = h
earlier P (v ∷ vs) us h = (earlier P vs (v ∷ us) h).1

-- Where it starts, at most four are open.
abbrev AtMostFour : List Unit → Unit → Type 0
AtMostFour us v = length (open_at v.start us) ≤ 4

abbrev Shallow : List Unit → Type 0
Shallow us = Each AtMostFour us

depths_few : (vs us : List Unit) → Shallow (reverse_aux vs us) → (k : ℕ) → get_or (depths us vs) k 0 ≤ 5
unfolding depths
depths_few [] us h k = omega arith
depths_few (v ∷ vs) us h zero = let w = earlier AtMostFour vs (v ∷ us) h in omega arith
depths_few (v ∷ vs) us h (suc k) = depths_few vs (v ∷ us) h k

module _ (l : Layout) (s : List ℕ) (first : Judged) where
  list_shallow : (fuel : ℕ) (us : List Unit) → Shallow us → {x : Step} → Agrees us (next l s first us) x →
      Shallow (reverse (list_from fuel l s first us).units)
  unfolding list_from go_on next
  list_shallow zero us h a = rw reverse-reverse h
  list_shallow (suc fuel) us h a =
      go a (λ v os f few. list_shallow fuel (v ∷ us) (few, h) (next_agrees l s (v ∷ us) os (after v) f))
    where
      go : {n : Next} {x : Step} → Agrees us n x →
          ((v : Unit) (os : List Open) → Follow (v ∷ us) os (after v) → length (open_at v.start us) ≤ 4 →
          Shallow (reverse (list_from fuel l s first (v ∷ us)).units)) →
          Shallow (reverse (go_on (list_from fuel l s first) us n).units)
      go both_end more = rw reverse-reverse h
      go both_refuse more = rw reverse-reverse h
      go (both_list {u = v} {os = os} few f) more = more v os f few

pub shallow : (l : Layout) (s : List ℕ) (root : Bool) (state k : ℕ) →
    get_or (depths [] (list_by l s (judge_of l root state s)).units) k 0 ≤ 5
unfolding list_by next
shallow l s root state k =
    let first = judge_of l root state s in
    depths_few (list_by l s first).units [] (list_shallow l s first (suc (length s)) [] (record {}) (first_agrees l s root state)) k
