-- What holds of every fault that the judge and the closing of units tell holds of the fault that ends a unit list. Of the units
-- listed before it, the last one stands first.
use Rattle.std.proofs.Common.{ℕ, zero, suc, ◌+◌, ◌-◌, ◌≡◌, refl, subst, false, List, [], ◌∷◌, reverse, arith, length, take, drop}
use Rattle.std.proofs.lemmas.List.{reverse-reverse}
use Rattle.cdf_unit_table.specs.States.{complete}
use Rattle.cdf_unit_prefix.specs.Layout.{Layout}
use Rattle.cdf_unit_judge.specs.Judge.{judge_of, Judged, Fault, Found}
use Rattle.cdf_unit_list.specs.Units.{Next, whole, broken, listed, after, state_of, closed, within, or_else, unit_at, next_at, next}
use Rattle.cdf_unit_list.specs.Units.{open_at, closing_at, Listing, End, unfinished, ended, fault, go_on, list_from, list_by}
use Rattle.cdf_unit_list.specs.declared.Unit.{Unit}
use Rattle.cdf_unit_table.proofs.Bools.{of_cond}

module _ (l : Layout) (s : List ℕ) (first : Judged) (P : List Unit → ℕ → ℕ → Type 0)
    (at_first : (n k : ℕ) → first ≡ Fault n k → P [] n k)
    (at_end_lem : (us : List Unit) (u : Unit) → P us 10 u.start)
    (at_unit : (u : Unit) (us : List Unit) (state m n k : ℕ) → judge_of l false state (take m (drop (after u) s)) ≡ Fault n k →
    P (u ∷ us) n (after u + k)) where
  abbrev OfNext : List Unit → Next → Type 0
  OfNext us whole = record {}
  OfNext us (broken n at) = P us n at
  OfNext us (listed u) = record {}

  abbrev OfEnd : List Unit → End → Type 0
  OfEnd us unfinished = record {}
  OfEnd us ended = record {}
  OfEnd us (fault n at) = P us n at

  of_unit : (us : List Unit) (pos : ℕ) (j : Judged) → ((n k : ℕ) → j ≡ Fault n k → P us n (pos + k)) → OfNext us (unit_at pos j)
  unfolding unit_at
  of_unit us pos (Fault n k) told = told n k refl
  of_unit us pos (Found id action own len state) told = record {}

  of_closed : (us cs : List Unit) → OfNext us (closed us cs)
  unfolding closed
  of_closed us [] = record {}
  of_closed us (u ∷ cs) =
      of_cond (OfNext us) (complete (state_of us u)) (closed us cs) (broken 10 u.start) (λ e. of_closed us cs) (λ e. at_end_lem us u)

  of_within : (u : Unit) (us os : List Unit) → OfNext (u ∷ us) (within l s (u ∷ us) (after u) os)
  unfolding within
  of_within u us [] = record {}
  of_within u us (o ∷ os) =
      of_unit (u ∷ us) (after u) (judge_of l false (state_of (u ∷ us) o) (take (o.end - after u) (drop (after u) s)))
      (at_unit u us (state_of (u ∷ us) o) (o.end - after u))

  of_either : (us : List Unit) (a b : Next) → OfNext us a → OfNext us b → OfNext us (or_else a b)
  unfolding or_else
  of_either us whole b p q = q
  of_either us (broken n at) b p q = p
  of_either us (listed u) b p q = p

  of_next : (us : List Unit) → OfNext us (next l s first us)
  unfolding next next_at
  of_next [] = of_unit [] 0 first (λ n k e. let same : 0 + k ≡ k = omega arith in rw same (at_first n k e))
  of_next (u ∷ us) =
      of_either (u ∷ us) (closed (u ∷ us) (closing_at (after u) (u ∷ us))) _ (of_closed (u ∷ us) (closing_at (after u) (u ∷ us)))
      (of_within u us (open_at (after u) (u ∷ us)))

  abbrev OfListing : Listing → Type 0
  OfListing r = OfEnd (reverse r.units) r.end

  of_list : (f : ℕ) (us : List Unit) → OfListing (list_from f l s first us)
  unfolding list_from
  of_list zero us = record {}
  of_list (suc f) us = go (next l s first us) (of_next us) (of_list f)
    where
      go : (n : Next) → OfNext us n → ((us : List Unit) → OfListing (list_from f l s first us)) →
          OfListing (go_on (list_from f l s first) us n)
      go whole q more = q
      go (broken n at) q more = rw reverse-reverse q
      go (listed u) q more = more (u ∷ us)

  pub at_fault : {n at : ℕ} → (list_by l s first).end ≡ fault n at → P (reverse (list_by l s first).units) n at
  unfolding list_by
  at_fault e = subst (OfEnd (reverse (list_by l s first).units)) e (of_list (suc (length s)) [])
