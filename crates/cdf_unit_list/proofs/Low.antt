-- Depth and rank of any unit list: the units and their depths are the list's own, and a rank times the prefix is at most the start.
use Rattle.std.proofs.Common.{◌≡◌, refl, Bool, true, false, cond, List, [], ◌∷◌, map, reverse, ℕ, zero, suc, ◌≤◌, ◌*◌, arith, suc-mul}
use Rattle.std.proofs.Common.{mul-le-mul_right, length, get_or}
use Rattle.std.proofs.lemmas.List.{reverse-reverse}
use mathlib.Core.List.{reverse_aux}
use Rattle.cdf_unit_prefix.specs.Layout.{Layout, prefix_of}
use Rattle.cdf_unit_judge.specs.Judge.{judge_of}
use Rattle.cdf_unit_list.specs.Units.{open_at, inside, first_starts, list_by, depths}
use Rattle.cdf_unit_list.specs.Ranks.{rank_in, ranked}
use Rattle.cdf_unit_list.specs.Stack.{Step, done, refused, found, entered, step}
use Rattle.cdf_unit_list.specs.Steps.{steps_from, steps}
use Rattle.cdf_unit_list.specs.declared.Unit.{Unit}
use Rattle.cdf_unit_list.proofs.Few.{Further, unit_further, step_further}
use Rattle.cdf_unit_list.proofs.Depth.{Each, earlier}
use Rattle.cdf_unit_list.proofs.Agreement.{follows}

pub ranked_units_lem : (us vs : List Unit) → map (λ r. r.unit) (ranked us vs) ≡ vs
unfolding ranked
ranked_units_lem us [] = refl
ranked_units_lem us (v ∷ vs) = rw (ranked_units_lem (v ∷ us) vs)

pub ranked_depths : (us vs : List Unit) → map (λ r. r.depth) (ranked us vs) ≡ depths us vs
unfolding ranked depths
ranked_depths us [] = refl
ranked_depths us (v ∷ vs) = rw (ranked_depths (v ∷ us) vs)

-- A rank counts some of the units before.
inside_few : (at : ℕ) (us : List Unit) → length (inside at us) ≤ length us
unfolding inside
inside_few at [] = omega arith
inside_few at (v ∷ us) = go (first_starts at (open_at v.start us)) (inside_few at us)
  where
    go : (b : Bool) → length (inside at us) ≤ length us → length (cond b (v.id ∷ inside at us) (inside at us)) ≤ suc (length us)
    go true h = omega arith
    go false h = omega arith

rank_few : (us os : List Unit) → rank_in us os ≤ length us
unfolding rank_in
rank_few us [] = omega arith
rank_few us (o ∷ os) = inside_few o.start us

module _ (l : Layout) where
  -- Each of those before it takes a prefix.
  abbrev Behind : List Unit → Unit → Type 0
  Behind us v = length us * prefix_of l ≤ v.start

  ranks_low : (vs us : List Unit) → Each Behind (reverse_aux vs us) → (k : ℕ) →
      get_or (map (λ r. r.rank) (ranked us vs)) k 0 * prefix_of l ≤ get_or (map (λ r. r.unit.start) (ranked us vs)) k 0
  unfolding ranked
  ranks_low [] us h k = omega arith
  ranks_low (v ∷ vs) us h zero =
      let w = earlier Behind vs (v ∷ us) h in
      let m = mul-le-mul_right (prefix_of l) (rank_few us (open_at v.start us)) in
      omega arith
  ranks_low (v ∷ vs) us h (suc k) = ranks_low vs (v ∷ us) h k

  behind_from : (s : List ℕ) (fuel : ℕ) (us : List Unit) (pos : ℕ) (x : Step) → length us * prefix_of l ≤ pos → Each Behind us → Further l s pos x →
      Each Behind (reverse (steps_from fuel l s x us).units)
  unfolding steps_from
  behind_from s zero us pos x p h f = rw reverse-reverse h
  behind_from s (suc fuel) us pos done p h f = rw reverse-reverse h
  behind_from s (suc fuel) us pos (refused n at) p h f = rw reverse-reverse h
  behind_from s (suc fuel) us pos (found u os later) p h f =
      behind_from s fuel (u ∷ us) later (step l s os later) (simp suc-mul (omega arith)) (omega arith, h) (step_further l s later os)

  pub low : (s : List ℕ) (root : Bool) (state k : ℕ) →
      let rs = ranked [] (list_by l s (judge_of l root state s)).units in
      get_or (map (λ r. r.rank) rs) k 0 * prefix_of l ≤ get_or (map (λ r. r.unit.start) rs) k 0
  unfolding steps
  low s root state k =
      ranks_low (list_by l s (judge_of l root state s)).units []
      (rw (← follows l s root state)
      (behind_from s (suc (length s)) [] 0 (entered 0 (λ state. []) (judge_of l root state s)) (omega arith) (record {})
      (unit_further l s 0 root state s (λ state. []) (omega arith))))
      k
