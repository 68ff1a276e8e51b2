-- The ranks to which a place leads: as many as units are left open, and none too high for the next position.
use Rattle.std.proofs.Common.{ℕ, suc, ◌+◌, ◌*◌, ◌≤◌, ◌≡◌, refl, Bool, true, false, cond, ◌&&◌, List, [], ◌∷◌, arith, leb-true, le-leb, leb, eqb}
use Rattle.std.proofs.Common.{length}
use Rattle.cdf_unit_table.specs.States.{complete}
use Rattle.cdf_unit_table.proofs.Bools.{both, clash}
use Rattle.cdf_unit_prefix.specs.Layout.{Layout, prefix_of}
use Rattle.cdf_unit_list.specs.Stack.{incomplete, left, close}
use Rattle.cdf_unit_list.specs.declared.Unit.{Unit}
use Rattle.cdf_unit_list.specs.declared.Open.{Open}
use Rattle.cdf_unit_list.proofs.Ranks.{Counted, CountedLeft}
use Rattle.cdf_reader_spec.specs.Place.{ReaderPlace, every, fits}
use Rattle.cdf_reader_spec.specs.Closing.{closes, unclosed, unclosed_ranks}
use Rattle.cdf_reader_spec.specs.Ranking.{rank_after, next_rank}
use Rattle.cdf_reader_spec.specs.Calls.{empty_place}
use Rattle.cdf_reader_spec.proofs.Fitting.{Low, fitting}
use Rattle.cdf_reader_spec.proofs.Ranking.{next_stands}

-- What closing leaves is what does not close.
pub left_unclosed : (os ws : List Open) (pos : ℕ) → close os pos ≡ left ws → unclosed os pos ≡ ws
unfolding close unclosed
left_unclosed [] ws pos e = cc
left_unclosed (o ∷ os) ws pos e = go (eqb o.end pos) (complete o.state) (left_unclosed os ws pos) e
  where
    go : (a b : Bool) → (close os pos ≡ left ws → unclosed os pos ≡ ws) →
        cond a (cond b (close os pos) (incomplete o.start)) (left (o ∷ os)) ≡ left ws →
        cond (a && b) (unclosed os pos) (o ∷ os) ≡ ws
    go true true more e = more e
    go true false more e = clash cc
    go false b more e = cc

-- They have their ranks, and the next unit has the rank that is due in the innermost of them.
pub close_counted : (us : List Unit) (os : List Open) (ks : List ℕ) (r pos : ℕ) → Counted us os ks r →
    CountedLeft us (unclosed_ranks os ks pos) (rank_after os ks pos r) (close os pos)
unfolding close unclosed_ranks rank_after
close_counted us [] ks r pos c = refl
close_counted us (o ∷ os) [] r pos c = absurd c
close_counted us (o ∷ os) (k ∷ ks) r pos c = go (eqb o.end pos) (complete o.state) (close_counted us os ks (suc k) pos c.1)
  where
    go : (a b : Bool) → CountedLeft us (unclosed_ranks os ks pos) (rank_after os ks pos (suc k)) (close os pos) →
        CountedLeft us (cond (a && b) (unclosed_ranks os ks pos) (k ∷ ks)) (cond (a && b) (rank_after os ks pos (suc k)) r)
        (cond a (cond b (close os pos) (incomplete o.start)) (left (o ∷ os)))
    go true true more = more
    go true false more = record {}
    go false b more = c

module _ (l : Layout) where
  pub low_later : (pos later : ℕ) → pos ≤ later → (ks : List ℕ) → Low l pos ks → Low l later ks
  unfolding every
  low_later pos later h [] e = refl
  low_later pos later h (k ∷ ks) e =
      let w = both (leb (k * prefix_of l) pos) _ e in
      rw (le-leb (k * prefix_of l) later (omega (arith, leb-true (k * prefix_of l) pos w.0))) (low_later pos later h ks w.1)

  pub low_on : (pos k : ℕ) (ks : List ℕ) → k * prefix_of l ≤ pos → Low l pos ks → Low l pos (k ∷ ks)
  unfolding every
  low_on pos k ks h low = rw (le-leb (k * prefix_of l) pos h) low

  -- Ranks for these open units.
  record Each (pos : ℕ) (os : List Open) (ks : List ℕ) : Type 0 where
    each : length ks ≡ length os
    low : Low l pos ks

  -- Closing keeps them.
  unclosed_each : (pos : ℕ) (os : List Open) (ks : List ℕ) → Each pos os ks → Each pos (unclosed os pos) (unclosed_ranks os ks pos)
  unfolding unclosed unclosed_ranks every
  unclosed_each pos [] ks a = record { each = refl; low = refl }
  unclosed_each pos (o ∷ os) [] a = absurd (omega (arith, a.each))
  unclosed_each pos (o ∷ os) (k ∷ ks) a = go (closes pos o) (unclosed_each pos os ks)
    where
      go : (c : Bool) → (Each pos os ks → Each pos (unclosed os pos) (unclosed_ranks os ks pos)) →
          Each pos (cond c (unclosed os pos) (o ∷ os)) (cond c (unclosed_ranks os ks pos) (k ∷ ks))
      go true more = more (record { each = omega (arith, a.each); low = (both (leb (k * prefix_of l) pos) _ a.low).1 })
      go false more = a

  -- The ranks to which a place leads, with these units left open.
  pub record Ranked (p : ReaderPlace) (pos : ℕ) (os : List Open) : Type 0 where
    pub each : length (unclosed_ranks p.units p.ranks p.position) ≡ length os
    pub low : Low l pos (unclosed_ranks p.units p.ranks p.position)
    pub next : next_rank p * prefix_of l ≤ pos + prefix_of l

  -- From the empty place there is none, and the first unit ranks first.
  pub empty_ranked : Ranked empty_place 0 []
  unfolding unclosed_ranks next_rank every
  empty_ranked = record { each = refl; low = refl; next = omega arith }

  -- A place that fits has its ranks.
  pub fitting_ranked : (n : ℕ) (p : ReaderPlace) → fits l n p ≡ true → (ws : List Open) → close p.units p.position ≡ left ws →
      Ranked p p.position ws
  fitting_ranked n p e ws q =
      let f = fitting l n p e in
      let a = unclosed_each p.position p.units p.ranks (record { each = f.each; low = f.ranks }) in
      record { each = rw (← left_unclosed p.units ws p.position q) a.each; low = a.low; next = next_stands l n p f }
