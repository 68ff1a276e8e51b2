-- A fault of the unit list has one of the numbers 3 to 10, and 9 names a byte of the refused unit.
use Rattle.std.proofs.Common.{ℕ, zero, suc, ◌+◌, ◌≤◌, ◌≡◌, refl, sym, Bool, true, false, List, [], ◌∷◌, reverse, arith, length, take, drop}
use Rattle.std.proofs.Common.{length-take, get_or-take}
use Rattle.std.proofs.lemmas.Bool.{false≢true}
use Rattle.cdf_unit_prefix.specs.Layout.{Layout, prefix_of, number_at, length_at}
use Rattle.cdf_unit_judge.specs.Judge.{judge_of, Fault}
use Rattle.cdf_unit_judge.proofs.Faults.{told}
use Rattle.cdf_unit_list.specs.Units.{after, fault, list_by, listing}
use Rattle.cdf_unit_list.specs.Claims.{Pointed}
use Rattle.cdf_unit_list.specs.declared.Unit.{Unit}
use Rattle.cdf_unit_list.proofs.Ending.{at_fault}

abbrev Numbered : ℕ → Type 0
Numbered n = (3 ≤ n) × (n ≤ 10)

pub numbered : (l : Layout) (s : List ℕ) (root : Bool) (state : ℕ) {n at : ℕ} →
    (list_by l s (judge_of l root state s)).end ≡ fault n at → Numbered n
numbered l s root state e =
    at_fault l s (judge_of l root state s) (λ us n at. Numbered n)
    (λ n k e. let t = told l root s state e in omega (arith, t.low, t.high))
    (λ us u. omega arith)
    (λ u us state m n k e. let t = told l false (take m (drop (after u) s)) state e in omega (arith, t.low, t.high))
    e

-- A length that is read of the front bytes is read of all.
number_front : (k at m : ℕ) (t : List ℕ) → at + k ≤ m → number_at k at (take m t) ≡ number_at k at t
unfolding number_at
number_front zero at m t h = refl
number_front (suc k) at m t h = rw (number_front k at m t (omega arith), get_or-take m t (at + k) 0 (omega arith))

length_front : (l : Layout) (m : ℕ) (t : List ℕ) → prefix_of l ≤ m → length_at l (take m t) ≡ length_at l t
unfolding length_at
length_front l m t h = number_front l.length_bytes 2 m t (omega arith)

pub pointed : (l : Layout) (s : List ℕ) {at : ℕ} → (listing l s).end ≡ fault 9 at → Pointed l s (reverse (listing l s).units) at
unfolding listing
pointed l s e =
    at_fault l s (judge_of l true 0 s) (λ us n at. n ≡ 9 → Pointed l s us at)
    (λ n k e nine. absurd (false≢true (sym ((told l true s 0 e).nested nine))))
    (λ us u nine. absurd (omega arith))
    (λ u us state m n k e nine. go u state m k (rw nine at e)) e refl
  where
    go : (u : Unit) (state m k : ℕ) → judge_of l false state (take m (drop (after u) s)) ≡ Fault 9 k → Pointed l s (u ∷ []) (after u + k)
    go u state m k e =
        let rest = take m (drop (after u) s) in
        let t = told l false rest state e in
        let behind = t.behind refl in
        let few : length rest ≤ m = simp length-take (omega arith) in
        let same = length_front l m (drop (after u) s) (omega (arith, t.lies)) in
        (omega arith, omega (arith, t.inside refl))
