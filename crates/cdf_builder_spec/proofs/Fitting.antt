-- A builder's place that fits, clause by clause as facts.
use Rattle.std.proofs.Common.{ℕ, ◌+◌, ◌≤◌, ◌≡◌, true, ◌&&◌, List, leb-true, le-leb, leb, eqb, length}
use Rattle.cdf_unit_table.specs.States.{unit_of, root_kind, admits_kind}
use Rattle.cdf_unit_table.proofs.Bools.{both}
use Rattle.cdf_unit_prefix.specs.Layout.{Layout, prefix_of}
use Rattle.cdf_reader_spec.specs.Place.{nested, every, all}
use Rattle.cdf_reader_spec.proofs.Opened.{few_by}
use Rattle.cdf_builder_spec.specs.declared.Begun.{Begun}
use Rattle.cdf_builder_spec.specs.Place.{BuilderPlace, buildable, past_prefix, clauses, fits}

-- The clauses on the open units.
abbrev pub Kinds : List Begun → Type 0
Kinds os = nested (λ o. root_kind (unit_of o.state)) (λ p o. admits_kind (unit_of p.state) (unit_of o.state)) os ≡ true

abbrev pub Buildable : List Begun → Type 0
Buildable os = every (λ o. buildable o.state) os ≡ true

abbrev pub Starts : Layout → List Begun → Type 0
Starts l os = nested (λ o. eqb o.start 0) (λ p o. leb (p.start + prefix_of l) o.start) os ≡ true

pub record Fitting (l : Layout) (n : ℕ) (p : BuilderPlace) : Type 0 where
  pub within : p.written ≤ n
  pub limit : p.written ≤ l.limit
  pub some : 1 ≤ length p.units
  pub five : length p.units ≤ 5
  pub kinds : Kinds p.units
  pub states : Buildable p.units
  pub starts : Starts l p.units
  pub past : past_prefix l p.written p.units ≡ true

-- The kinds alone leave room for four.
pub at_most_four : (os : List Begun) → Kinds os → length os ≤ 4
at_most_four = few_by (λ o. o.state)

module _ (l : Layout) (n : ℕ) (p : BuilderPlace) where
  pub fitting : fits l n p ≡ true → Fitting l n p
  unfolding fits all clauses
  fitting e =
      let c1 = both (leb p.written n) _ e in
      let c2 = both (leb p.written l.limit) _ c1.1 in
      let c3 = both (leb 1 (length p.units) && leb (length p.units) 5) _ c2.1 in
      let c4 = both _ _ c3.1 in
      let c5 = both _ _ c4.1 in
      let c6 = both _ _ c5.1 in
      let c7 = both (past_prefix l p.written p.units) _ c6.1 in
      let few = both (leb 1 (length p.units)) (leb (length p.units) 5) c3.0 in
      record {
        within = leb-true p.written n c1.0;
        limit = leb-true p.written l.limit c2.0;
        some = leb-true 1 (length p.units) few.0;
        five = leb-true (length p.units) 5 few.1;
        kinds = c4.0;
        states = c5.0;
        starts = c6.0;
        past = c7.0;
      }

  pub fits_true : Fitting l n p → fits l n p ≡ true
  unfolding fits all clauses
  fits_true f =
      rw (
        le-leb p.written n f.within,
        le-leb p.written l.limit f.limit,
        le-leb 1 (length p.units) f.some,
        le-leb (length p.units) 5 f.five,
        f.kinds,
        f.states,
        f.starts,
        f.past,
      )
