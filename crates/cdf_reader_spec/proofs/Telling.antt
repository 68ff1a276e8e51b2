-- Depth and rank that the calls tell, of any place, from what starts and ends where.
use Rattle.std.proofs.Common.{ℕ, suc, ◌+◌, ◌-◌, ◌≤◌, ◌≡◌, refl, sym, ◌∙◌, ap, Bool, true, false, cond, not, ◌&&◌, ◌⊎◌, List, [], ◌∷◌, ◌++◌, arith}
use Rattle.std.proofs.Common.{leb-true, eq-eqb, ne_eqb, leb, length, take, drop}
use Rattle.std.proofs.lemmas.Bool.{not-false}
use Rattle.cdf_unit_table.specs.States.{opens}
use Rattle.cdf_unit_table.proofs.Bools.{both, of_cond}
use Rattle.cdf_unit_prefix.specs.Layout.{Layout, prefix_of}
use Rattle.cdf_unit_judge.specs.Judge.{judge_of, Judged, Fault, Found}
use Rattle.cdf_unit_judge.proofs.Faults.{told}
use Rattle.cdf_unit_list.specs.Units.{after}
use Rattle.cdf_unit_list.specs.Stack.{Closing, incomplete, left, close, opened, entered, with_state, step_in, step, step_by, step_in_by}
use Rattle.cdf_unit_list.specs.declared.Unit.{Unit}
use Rattle.cdf_unit_list.specs.declared.Open.{Open}
use Rattle.cdf_unit_list.proofs.Entering.{unit_from as unit_at}
use Rattle.cdf_unit_list.proofs.Stepping.{fresh}
use Rattle.cdf_reader_spec.specs.Place.{ReaderPlace, is_empty, nested, fits}
use Rattle.cdf_reader_spec.specs.Closing.{unclosed_ranks}
use Rattle.cdf_reader_spec.specs.Ranking.{innermost_at, rank_after, next_rank, depth_at, handed_at}
use Rattle.cdf_reader_spec.specs.Calls.{Reply, empty_place, refuse, move_to, give, place_at, stepped, first_of, next_of, previous_of}
use Rattle.cdf_reader_spec.specs.Calls.{untouched, skipped_top, passed, passing, skip_of, is_group, take_of}
use Rattle.cdf_reader_spec.specs.Depths.{LastOf, StandsIn, NoneCloses, OutermostClosed, Kept}
use Rattle.cdf_reader_spec.proofs.Fitting.{fitting}
use Rattle.cdf_reader_spec.proofs.Suffix.{suffix, starts_least}
use Rattle.cdf_reader_spec.proofs.Closed.{none_closes, same_rank, same_ranks, inside_ends, closed}
use Rattle.cdf_reader_spec.proofs.Cases.{cases}
use Rattle.cdf_reader_spec.proofs.Replying.{start, first_is, next_tests, previous_tests, passing_tests, skip_is, take_is}

-- What a place gives is its last unit.
pub last_of : (p : ReaderPlace) → LastOf p (handed_at p)
unfolding handed_at depth_at innermost_at
last_of p = record {
  unit = refl;
  rank = refl;
  innermost = λ o os q z. rw (q, eq-eqb o.start p.last.start (sym z));
  other = λ o os q z. rw (q, ne_eqb o.start p.last.start (λ e. z (sym e)));
}

-- What holds of a call's answer with 0, if it does of each that gives a unit: no refusal has the number 0.
module _ (l : Layout) (s : List ℕ) (P : Reply → Type 0) where
  abbrev Of : Reply → Type 0
  Of r = r.number ≡ 0 → P r

  -- The answer to a unit that stands at a position in these open units.
  abbrev Entered : ReaderPlace → ℕ → (ℕ → List Open) → Type 0
  Entered p pos around = (u : Unit) (next : ℕ) → u.start ≡ pos → P (give (place_at p u (opened u (around next)) (after u)))

  entered_of : (p : ReaderPlace) (pos : ℕ) (around : ℕ → List Open) (root : Bool) (state : ℕ) (t : List ℕ) → Entered p pos around →
      Of (stepped p (entered pos around (judge_of l root state t)))
  unfolding entered stepped
  entered_of p pos around root state t some = go (judge_of l root state t) refl
    where
      go : (j : Judged) → judge_of l root state t ≡ j → Of (stepped p (entered pos around j))
      go (Fault n k) e = λ z. absurd (omega (arith, (told l root t state e).low))
      go (Found id action own len next) e = λ z. some (unit_at pos id action own len) next refl

  -- The units that are open once those that end at the place's position are closed.
  abbrev Left : ReaderPlace → Type 0
  Left p = (o : Open) (os : List Open) → close p.units p.position ≡ left (o ∷ os) →
      Entered p p.position (λ next. with_state o next ∷ os)

  step_of : (p : ReaderPlace) → Left p → Of (stepped p (step l s p.units p.position))
  unfolding step_by step_in_by stepped
  step_of p some = go (close p.units p.position) refl
    where
      go : (c : Closing) → close p.units p.position ≡ c → Of (stepped p (step_in l s p.position c))
      go (incomplete at) q = λ z. absurd (omega arith)
      go (left []) q = λ z. absurd (omega arith)
      go (left (o ∷ os)) q =
          entered_of p p.position (λ next. with_state o next ∷ os) false o.state
          (take (o.end - p.position) (drop p.position s)) (some o os q)

  pub first_of_lem : Entered empty_place 0 (λ next. []) → Of (first_of l s)
  first_of_lem some = rw first_is (entered_of empty_place 0 (λ next. []) true 0 s some)

  pub next_of_lem : (p : ReaderPlace) → (fits l (length s) p ≡ true → Left p) → Of (next_of l s p)
  next_of_lem p some =
      rw next_tests
      (of_cond Of (is_empty p) (refuse 11 0 p) _ (λ e z. absurd (omega arith))
      (λ e. of_cond Of (not (fits l (length s) p)) (refuse 2 0 p) _ (λ f z. absurd (omega arith))
      (λ f. step_of p (some (not-false (fits l (length s) p) f)))))

  pub previous_of_lem : (p : ReaderPlace) → P (give p) → Of (previous_of l s p)
  previous_of_lem p some =
      rw previous_tests
      (of_cond Of (is_empty p) (refuse 11 0 p) _ (λ e z. absurd (omega arith))
      (λ e. of_cond Of (not (fits l (length s) p)) (refuse 2 0 p) (give p) (λ f z. absurd (omega arith)) (λ f z. some)))

  passing_of : (p : ReaderPlace) (may : Bool) → (fits l (length s) p ≡ true → P (move_to (passed p))) → Of (passing l s p may)
  passing_of p may some =
      rw passing_tests
      (of_cond Of (not may) (refuse 11 0 p) _ (λ e z. absurd (omega arith))
      (λ e. of_cond Of (not (fits l (length s) p)) (refuse 2 0 p) (move_to (passed p)) (λ f z. absurd (omega arith))
      (λ f z. some (not-false (fits l (length s) p) f))))

module _ (l : Layout) (s : List ℕ) where
  pub first_told : (first_of l s).number ≡ 0 → LastOf (first_of l s).place (first_of l s).handed
  first_told = first_of_lem l s (λ r. LastOf r.place r.handed) (λ u next z. last_of _)

  pub next_told : (p : ReaderPlace) → (next_of l s p).number ≡ 0 → LastOf (next_of l s p).place (next_of l s p).handed
  next_told p = next_of_lem l s (λ r. LastOf r.place r.handed) p (λ f o os q u next z. last_of _)

  pub previous_told : (p : ReaderPlace) → (previous_of l s p).number ≡ 0 → LastOf p (previous_of l s p).handed
  previous_told p = previous_of_lem l s (λ r. LastOf p r.handed) p (last_of p)

-- A unit is one deeper than those around it: it is the innermost open one, or it stands in that one, which starts elsewhere.
depth_in : (p : ReaderPlace) (u : Unit) (o : Open) (os : List Open) (pos : ℕ) → (o.start ≡ u.start → ⊥) →
    depth_at (place_at p u (opened u (o ∷ os)) pos) ≡ suc (suc (length os))
unfolding depth_at innermost_at opened
depth_in p u o os pos other = go (opens u.id)
  where
    go : (b : Bool) →
        cond (innermost_at (cond b (fresh u ∷ o ∷ os) (o ∷ os)) u.start) (length (cond b (fresh u ∷ o ∷ os) (o ∷ os)))
        (suc (length (cond b (fresh u ∷ o ∷ os) (o ∷ os))))
        ≡ suc (suc (length os))
    go true = rw (eq-eqb u.start u.start refl)
    go false = rw (ne_eqb o.start u.start other)

-- A unit that NEXT hands out, by the units that are left open at its place, their ranks, and the next rank.
module _ (l : Layout) (p : ReaderPlace) (around : List Open) (theirs : List ℕ) (own : ℕ) where
  record Leaves (o : Open) (os : List Open) : Type 0 where
    units : o ∷ os ≡ around
    ranks : unclosed_ranks p.units p.ranks p.position ≡ theirs
    rank : next_rank p ≡ own
    start : o.start + prefix_of l ≤ p.position

  stands : (o : Open) (os : List Open) → Leaves o os → (u : Unit) (next : ℕ) → u.start ≡ p.position →
      StandsIn around theirs own (give (place_at p u (opened u (with_state o next ∷ os)) (after u)))
  unfolding handed_at with_state
  stands o os w u next z = record {
    rank = w.rank;
    depth = depth_in p u (with_state o next) os (after u) (λ e. absurd (omega (arith, w.start))) ∙ ap (λ os. suc (length os)) w.units;
    ranks = rw (w.rank, w.ranks);
  }

-- The same with the units and ranks of the place in another form.
module _ (p : ReaderPlace) (us : List Open) (ks : List ℕ) (units : p.units ≡ us) (ranks : p.ranks ≡ ks) where
  rank_by : next_rank p ≡ rank_after us ks p.position (cond (innermost_at us p.last.start) 0 (suc p.last_rank))
  unfolding next_rank
  rank_by = rw (units, ranks)

  ranks_by : unclosed_ranks p.units p.ranks p.position ≡ unclosed_ranks us ks p.position
  ranks_by = rw (units, ranks)

module _ (l : Layout) (s : List ℕ) (p : ReaderPlace) where
  -- Units end at the position or none does.
  pub next_cases : (next_of l s p).number ≡ 0 → OutermostClosed p ⊎ NoneCloses p
  next_cases =
      next_of_lem l s (λ r. OutermostClosed p ⊎ NoneCloses p) p
      (λ f o ws q u next z. cases p o ws p.units p.ranks refl refl (fitting l (length s) p f).each q)

  -- Where no unit ends, the next one stands in the innermost.
  inside : (c : NoneCloses p) (rank : ℕ) → cond (innermost_at (c.innermost ∷ c.around) p.last.start) 0 (suc p.last_rank) ≡ rank →
      (next_of l s p).number ≡ 0 → StandsIn p.units p.ranks rank (next_of l s p)
  inside c rank e =
      let pos = p.position in
      let top = c.innermost in
      let os = c.around in
      next_of_lem l s (StandsIn p.units p.ranks rank) p (λ f o ws q.
      let fit = fitting l (length s) p f in
      let same : left (o ∷ ws) ≡ left (top ∷ os) = sym q ∙ (ap (λ us. close us pos) c.units ∙ none_closes pos top os c.stays) in
      let low = starts_least l pos [] top os (rw c.units at fit.starts) (rw c.units at fit.position) in
      let heads : o.start ≡ top.start = cc in
      stands l p p.units p.ranks rank o ws (record {
        units = cc;
        ranks = ranks_by p (top ∷ os) p.ranks c.units refl ∙ same_ranks pos top os c.stays p.ranks;
        rank = rank_by p (top ∷ os) p.ranks c.units refl ∙ (same_rank pos top os c.stays p.ranks _ ∙ e);
        start = omega arith;
      }))

  pub next_first : (c : NoneCloses p) → p.last.start ≡ c.innermost.start → (next_of l s p).number ≡ 0 →
      StandsIn p.units p.ranks 0 (next_of l s p)
  unfolding innermost_at
  next_first c z = inside c 0 (rw (eq-eqb c.innermost.start p.last.start (sym z)))

  pub next_sibling : (c : NoneCloses p) → (p.last.start ≡ c.innermost.start → ⊥) → (next_of l s p).number ≡ 0 →
      StandsIn p.units p.ranks (suc p.last_rank) (next_of l s p)
  unfolding innermost_at
  next_sibling c z = inside c (suc p.last_rank) (rw (ne_eqb c.innermost.start p.last.start (λ e. z (sym e))))

  -- Where some end, it stands in the one around the outermost of them.
  pub next_closes : (c : OutermostClosed p) → (next_of l s p).number ≡ 0 →
      StandsIn (c.parent ∷ c.around) c.around_ranks (suc c.rank) (next_of l s p)
  unfolding nested
  next_closes c =
      let pos = p.position in
      let outer = c.parent ∷ c.around in
      let us = c.inside ++ (c.unit ∷ outer) in
      let ks = c.inside_ranks ++ (c.rank ∷ c.around_ranks) in
      next_of_lem l s (StandsIn outer c.around_ranks (suc c.rank)) p (λ f o ws q.
      let fit = fitting l (length s) p f in
      let starts = rw c.units at fit.starts in
      let position = rw c.units at fit.position in
      let ended = inside_ends l (length s) pos c.inside c.unit outer position (rw c.units at fit.ends) c.ends in
      let a = closed pos c.unit c.parent c.around c.rank c.around_ranks (o ∷ ws) c.ends c.stays c.inside c.inside_ranks
      (cond (innermost_at us p.last.start) 0 (suc p.last_rank)) ended c.each (rw c.units at q) in
      let low = starts_least l pos c.inside c.unit outer starts position in
      let lower = (both (leb (c.parent.start + prefix_of l) c.unit.start) _ (suffix _ _ c.inside c.unit outer starts)).0 in
      let opened = a.units in
      let heads : o.start ≡ c.parent.start = cc in
      stands l p outer c.around_ranks (suc c.rank) o ws (record {
        units = a.units;
        ranks = ranks_by p us ks c.units c.ranks ∙ a.kept;
        rank = rank_by p us ks c.units c.ranks ∙ a.next;
        start = omega (arith, leb-true (c.parent.start + prefix_of l) c.unit.start lower);
      }))

-- Past the last unit the depth is the same: the units that are open have their starts.
depth_passed : (p : ReaderPlace) → depth_at (passed p) ≡ depth_at p
unfolding depth_at innermost_at passed skipped_top with_state
depth_passed p = go p.units
  where
    at : ℕ
    at = p.last.start

    go : (os : List Open) →
        cond (innermost_at (skipped_top os) at) (length (skipped_top os)) (suc (length (skipped_top os)))
        ≡ cond (innermost_at os at) (length os) (suc (length os))
    go [] = refl
    go (o ∷ os) = refl

pub handed_passed : (p : ReaderPlace) → handed_at (passed p) ≡ handed_at p
unfolding handed_at passed
handed_passed p = ap (λ d. record { unit = p.last; depth = d; rank = p.last_rank }) (depth_passed p)

module _ (l : Layout) (s : List ℕ) (p : ReaderPlace) where
  -- At a place that fits PREVIOUS hands out the last unit.
  pub previous_is : fits l (length s) p ≡ true → previous_of l s p ≡ give p
  unfolding is_empty
  previous_is e = rw (previous_tests, ne_eqb (length p.units) 0 (λ z. omega (arith, (fitting l (length s) p e).some)), e)

  passing_keeps : (may : Bool) → (passing l s p may).number ≡ 0 → Kept l s p (passing l s p may)
  unfolding passed
  passing_keeps may = passing_of l s (Kept l s p) p may (λ f. record {
    ranks = refl;
    last_rank = refl;
    again = previous_of_lem l s (λ r. r.handed ≡ (previous_of l s p).handed) (passed p) (handed_passed p ∙ sym (ap (λ r. r.handed) (previous_is f)));
  })

  pub skip_keeps : (skip_of l s p).number ≡ 0 → Kept l s p (skip_of l s p)
  skip_keeps = rw skip_is (passing_keeps (untouched p))

  pub take_keeps : (take_of l s p).number ≡ 0 → Kept l s p (take_of l s p)
  take_keeps = rw take_is (passing_keeps (untouched p && is_group p.last.id))
