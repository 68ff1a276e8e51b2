-- A place that fits, clause by clause as facts.
use Rattle.std.proofs.Common.{ℕ, ◌+◌, ◌*◌, ◌≤◌, ◌≡◌, refl, Bool, true, false, not, ◌&&◌, ◌||◌, List, ◌∷◌, leb-true, le-leb, eqb-true, eq-eqb, leb}
use Rattle.std.proofs.Common.{eqb, length}
use Rattle.std.proofs.lemmas.Bool.{false≢true}
use Rattle.cdf_unit_table.specs.States.{unit_of, root_kind, admits_kind}
use Rattle.cdf_unit_table.proofs.Bools.{both}
use Rattle.cdf_unit_prefix.specs.Layout.{Layout, prefix_of}
use Rattle.cdf_unit_list.specs.declared.Open.{Open}
use Rattle.cdf_reader_spec.specs.Place.{ReaderPlace, nested, every, is_state, positioned, at_last, clauses, all, fits}

-- The clauses on the open units.
abbrev pub Kinds : List Open → Type 0
Kinds os = nested (λ o. root_kind (unit_of o.state)) (λ p o. admits_kind (unit_of p.state) (unit_of o.state)) os ≡ true

abbrev pub States : List Open → Type 0
States os = every (λ o. is_state o.state) os ≡ true

abbrev pub Starts : Layout → List Open → Type 0
Starts l os = nested (λ o. eqb o.start 0) (λ p o. leb (p.start + prefix_of l) o.start) os ≡ true

abbrev pub Ends : ℕ → List Open → Type 0
Ends n os = nested (λ o. eqb o.end n) (λ p o. leb o.end p.end) os ≡ true

-- No rank, times the prefix, is above the position.
abbrev pub Low : Layout → ℕ → List ℕ → Type 0
Low l pos ks = every (λ k. leb (k * prefix_of l) pos) ks ≡ true

pub record Fitting (l : Layout) (n : ℕ) (p : ReaderPlace) : Type 0 where
  pub some : 1 ≤ length p.units
  pub five : length p.units ≤ 5
  pub kinds : Kinds p.units
  pub states : States p.units
  pub starts : Starts l p.units
  pub ends : Ends n p.units
  pub position : positioned l p.position p.units ≡ true
  pub own : p.last.start + prefix_of l ≤ p.last.own
  pub end : p.last.own ≤ p.last.end
  pub within : p.last.end ≤ n
  pub last : p.fresh ≡ true → at_last p.position p.units p.last ≡ true
  pub each : length p.ranks ≡ length p.units
  pub last_rank : p.last_rank * prefix_of l ≤ p.position
  pub ranks : Low l p.position p.ranks

pub flag_fact : (f a : Bool) → (not f || a) ≡ true → f ≡ true → a ≡ true
flag_fact true a e x = e
flag_fact false a e x = absurd (false≢true x)

pub flag_test : (f a : Bool) → (f ≡ true → a ≡ true) → (not f || a) ≡ true
flag_test true a h = h refl
flag_test false a h = refl

module _ (l : Layout) (n : ℕ) (p : ReaderPlace) where
  pub fitting : fits l n p ≡ true → Fitting l n p
  unfolding fits all clauses every
  fitting e =
      let c1 = both (leb 1 (length p.units) && leb (length p.units) 5) _ e in
      let c2 = both _ _ c1.1 in
      let c3 = both _ _ c2.1 in
      let c4 = both _ _ c3.1 in
      let c5 = both _ _ c4.1 in
      let c6 = both (positioned l p.position p.units) _ c5.1 in
      let c7 = both _ _ c6.1 in
      let c8 = both (not p.fresh || at_last p.position p.units p.last) _ c7.1 in
      let c9 = both (eqb (length p.ranks) (length p.units) && every (λ k. leb (k * prefix_of l) p.position) (p.last_rank ∷ p.ranks)) _ c8.1 in
      let ranked = both (eqb (length p.ranks) (length p.units)) _ c9.0 in
      let low = both (leb (p.last_rank * prefix_of l) p.position) _ ranked.1 in
      let few = both (leb 1 (length p.units)) (leb (length p.units) 5) c1.0 in
      let own = both (leb (p.last.start + prefix_of l) p.last.own) _ c7.0 in
      let high = both (leb p.last.own p.last.end) (leb p.last.end n) own.1 in
      record {
        some = leb-true 1 (length p.units) few.0;
        five = leb-true (length p.units) 5 few.1;
        kinds = c2.0;
        states = c3.0;
        starts = c4.0;
        ends = c5.0;
        position = c6.0;
        own = leb-true (p.last.start + prefix_of l) p.last.own own.0;
        end = leb-true p.last.own p.last.end high.0;
        within = leb-true p.last.end n high.1;
        last = flag_fact p.fresh (at_last p.position p.units p.last) c8.0;
        each = eqb-true (length p.ranks) (length p.units) ranked.0;
        last_rank = leb-true (p.last_rank * prefix_of l) p.position low.0;
        ranks = low.1;
      }

  pub fits_true : Fitting l n p → fits l n p ≡ true
  unfolding fits all clauses every
  fits_true f =
      rw (
        le-leb 1 (length p.units) f.some,
        le-leb (length p.units) 5 f.five,
        f.kinds,
        f.states,
        f.starts,
        f.ends,
        f.position,
        le-leb (p.last.start + prefix_of l) p.last.own f.own,
        le-leb p.last.own p.last.end f.end,
        le-leb p.last.end n f.within,
        flag_test p.fresh (at_last p.position p.units p.last) f.last,
        eq-eqb (length p.ranks) (length p.units) f.each,
        le-leb (p.last_rank * prefix_of l) p.position f.last_rank,
        f.ranks,
      )
