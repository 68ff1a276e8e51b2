-- Whether a builder's place fits, by its parts and in the order of the code's tests.
use Rattle.std.proofs.Common.{ℕ, zero, suc, ◌+◌, ◌≤◌, ◌<◌, ◌≡◌, refl, sym, ◌∙◌, Bool, true, false, ◌&&◌, List, [], ◌∷◌, arith, leb, eqb, length}
use Rattle.std.proofs.lemmas.Bool.{false≢true}
use Rattle.cdf_unit_table.specs.States.{unit_of, root_kind, admits_kind}
use Rattle.cdf_unit_table.proofs.Bools.{both}
use Rattle.cdf_unit_prefix.specs.Layout.{Layout, prefix_of}
use Rattle.cdf_reader_spec.specs.Place.{nested, every}
use Rattle.cdf_reader_spec.specs.Slots.{around_of, held_of}
use Rattle.cdf_reader_spec.proofs.Counted.{length_held}
use Rattle.cdf_reader_fit.proofs.Parted.{no}
use Rattle.cdf_builder_spec.specs.declared.Begun.{Begun}
use Rattle.cdf_builder_spec.specs.Place.{BuilderPlace, buildable, past_prefix, fits}
use Rattle.cdf_builder_spec.specs.Slots.{no_begun, units, place_of}
use Rattle.cdf_builder_spec.proofs.Fitting.{Kinds, Buildable, Starts, Fitting, at_most_four, fitting, fits_true}
use Rattle.cdf_builder_fit.specs.Linked.{outermost, inside, linked}

-- The three clauses on the open units are the one test.
module _ (l : Layout) where
  clauses_of : (os : List Begun) → linked l os ≡ true → Kinds os × (Buildable os × Starts l os)
  unfolding linked nested every
  clauses_of [] e = absurd (false≢true e)
  clauses_of (o ∷ []) e =
      let state = both (buildable o.state) _ e in
      let kind = both (root_kind (unit_of o.state)) (eqb o.start 0) state.1 in
      (kind.0, (rw state.0, kind.1))
  clauses_of (o ∷ p ∷ os) e =
      let two = both (inside l p o) (linked l (p ∷ os)) e in
      let state = both (buildable o.state) _ two.0 in
      let kind = both (admits_kind (unit_of p.state) (unit_of o.state)) (leb (p.start + prefix_of l) o.start) state.1 in
      let rest = clauses_of (p ∷ os) two.1 in
      (rw kind.0 rest.0, (rw state.0 rest.1.0, rw kind.1 rest.1.1))

  all_linked : (os : List Begun) → Kinds os → Buildable os → Starts l os → linked l os ≡ true
  unfolding linked nested every
  all_linked [] kinds states starts = absurd (false≢true kinds)
  all_linked (o ∷ []) kinds states starts = rw ((both (buildable o.state) true states).0, kinds, starts)
  all_linked (o ∷ p ∷ os) kinds states starts =
      let kind = both (admits_kind (unit_of p.state) (unit_of o.state)) _ kinds in
      let state = both (buildable o.state) (every (λ o. buildable o.state) (p ∷ os)) states in
      let start = both (leb (p.start + prefix_of l) o.start) _ starts in
      rw (state.0, kind.0, start.0) (all_linked (p ∷ os) kind.1 state.1 start.1)

  some_linked : (os : List Begun) → linked l os ≡ true → 1 ≤ length os
  unfolding linked nested
  some_linked [] e = absurd (false≢true e)
  some_linked (o ∷ os) e = omega arith

  -- One to four units are linked, whatever the count is.
  linked_count : (k : ℕ) (top o1 o2 o3 : Begun) → linked l (units k top o1 o2 o3) ≡ true → (1 ≤ k) × (k ≤ 4)
  linked_count k top o1 o2 o3 e =
      let size : length (units k top o1 o2 o3) ≡ k = length_held no_begun k top o1 o2 o3 in
      let some = some_linked (units k top o1 o2 o3) e in
      let few = at_most_four (units k top o1 o2 o3) (clauses_of (units k top o1 o2 o3) e).0 in
      (omega arith, omega arith)

  -- The returns of the code, by the count.
  module _ (count : ℕ) (top o1 o2 o3 : Begun) where
    abbrev Linked : Bool
    Linked = linked l (units count top o1 o2 o3)

    pub single : count ≡ 1 → outermost top ≡ Linked
    unfolding linked nested held_of around_of
    single e = rw e

    pub double : count ≡ 2 → (inside l o1 top && outermost o1) ≡ Linked
    unfolding linked nested held_of around_of
    double e = rw e

    pub triple : count ≡ 3 → (inside l o2 top && (inside l o1 o2 && outermost o1)) ≡ Linked
    unfolding linked nested held_of around_of
    triple e = rw e

    pub fourfold : count ≡ 4 → (inside l o3 top && (inside l o2 o3 && (inside l o1 o2 && outermost o1))) ≡ Linked
    unfolding linked nested held_of around_of
    fourfold e = rw e

    pub no_other : (count ≡ 1 → ⊥) → (count ≡ 2 → ⊥) → (count ≡ 3 → ⊥) → (count ≡ 4 → ⊥) → false ≡ Linked
    no_other a b c d = no Linked (λ e. let counted = linked_count count top o1 o2 o3 e in omega (arith, counted.0, counted.1))

module _ (written : ℕ) (top o1 o2 o3 : Begun) where
  abbrev placed : ℕ → BuilderPlace
  placed k = place_of written k top o1 o2 o3

  -- What the place asks of the innermost unit is asked of `top`.
  top_past : (l : Layout) (k : ℕ) → past_prefix l written (placed k).units ≡ true → leb (top.start + prefix_of l) written ≡ true
  unfolding past_prefix held_of
  top_past l zero e = absurd (false≢true e)
  top_past l (suc k) e = e

  past_top : (l : Layout) (k : ℕ) → 1 ≤ k → leb (top.start + prefix_of l) written ≡ true → past_prefix l written (placed k).units ≡ true
  unfolding past_prefix held_of
  past_top l zero some e = absurd (omega arith)
  past_top l (suc k) some e = e

  module _ (l : Layout) (n count : ℕ) where
    abbrev Fits : Bool
    Fits = fits l n (placed count)

    facts : Fits ≡ true → Fitting l n (placed count)
    facts = fitting l n (placed count)

    pub written_not : n < written → false ≡ Fits
    written_not h = no Fits (λ e. omega (arith, (facts e).within))

    pub limit_not : l.limit < written → false ≡ Fits
    limit_not h = no Fits (λ e. omega (arith, (facts e).limit))

    pub past_not : leb (top.start + prefix_of l) written ≡ false → false ≡ Fits
    past_not h = no Fits (λ e. false≢true (sym h ∙ top_past l count (facts e).past))

    -- All the other tests passed: it fits exactly if the open units are linked.
    module _ (room : written ≤ n) (within : written ≤ l.limit) (past : leb (top.start + prefix_of l) written ≡ true) where
      fit : linked l (placed count).units ≡ true → Fitting l n (placed count)
      fit e =
          let w = clauses_of l (placed count).units e in
          let counted = linked_count l count top o1 o2 o3 e in
          let size : length (placed count).units ≡ count = length_held no_begun count top o1 o2 o3 in
          record {
            within = room;
            limit = within;
            some = omega (arith, counted.0);
            five = omega (arith, counted.1);
            kinds = w.0;
            states = w.1.0;
            starts = w.1.1;
            past = past_top l count counted.0 past;
          }

      pub by_linked : linked l (placed count).units ≡ Fits
      by_linked = go (linked l (placed count).units) refl
        where
          go : (b : Bool) → linked l (placed count).units ≡ b → b ≡ Fits
          go true e = sym (fits_true l n (placed count) (fit e))
          go false e =
              no Fits (λ h. let f = facts h in
              false≢true (sym e ∙ all_linked l (placed count).units f.kinds f.states f.starts))
