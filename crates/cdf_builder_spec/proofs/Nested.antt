-- Open units of a builder's place that lie in one another, as facts.
use Rattle.std.proofs.Common.{ℕ, ◌+◌, ◌≤◌, ◌≡◌, true, List, [], ◌∷◌, ◌++◌, arith, leb-true, le-leb, eqb-true, eq-eqb, leb, length}
use Rattle.std.proofs.lemmas.Bool.{false≢true}
use Rattle.cdf_unit_table.specs.States.{unit_of, root_kind, admits_kind}
use Rattle.cdf_unit_table.proofs.Bools.{both}
use Rattle.cdf_unit_prefix.specs.Layout.{Layout, prefix_of}
use Rattle.cdf_reader_spec.specs.Place.{nested, every}
use Rattle.cdf_builder_spec.specs.declared.Begun.{Begun}
use Rattle.cdf_builder_spec.specs.Place.{BuilderPlace, buildable, past_prefix}
use Rattle.cdf_builder_spec.proofs.Fitting.{Kinds, Buildable, Starts, Fitting, at_most_four}

module _ (l : Layout) where
  -- The outermost may be a root and starts at 0; each other is of a kind that the one outside it admits, and starts a prefix
  -- further at least. Each is in a state of a unit that is built.
  abbrev pub Nested : List Begun → Type 0
  Nested [] = ⊥
  Nested (o ∷ []) = (buildable o.state ≡ true) × (root_kind (unit_of o.state) ≡ true) × (o.start ≡ 0)
  Nested (o ∷ p ∷ os) =
      (buildable o.state ≡ true) × (admits_kind (unit_of p.state) (unit_of o.state) ≡ true) × (p.start + prefix_of l ≤ o.start)
      × Nested (p ∷ os)

  -- The innermost one's prefix is written.
  abbrev pub Written : ℕ → List Begun → Type 0
  Written w [] = ⊥
  Written w (o ∷ os) = o.start + prefix_of l ≤ w

  -- The clauses of a place as these facts, and back.
  from_clauses : (us : List Begun) → Kinds us → Buildable us → Starts l us → Nested us
  unfolding nested every
  from_clauses [] k b s = false≢true k
  from_clauses (o ∷ []) k b s = ((both (buildable o.state) true b).0, k, eqb-true o.start 0 s)
  from_clauses (o ∷ p ∷ us) k b s =
      let x = both (buildable o.state) (every (λ o. buildable o.state) (p ∷ us)) b in
      let y = both (admits_kind (unit_of p.state) (unit_of o.state)) _ k in
      let z = both (leb (p.start + prefix_of l) o.start) _ s in
      (x.0, y.0, leb-true (p.start + prefix_of l) o.start z.0, from_clauses (p ∷ us) y.1 x.1 z.1)

  to_clauses : (us : List Begun) → Nested us → Kinds us × Buildable us × Starts l us
  unfolding nested every
  to_clauses [] h = absurd h
  to_clauses (o ∷ []) h = (h.1, rw h.0, eq-eqb o.start 0 h.2)
  to_clauses (o ∷ p ∷ us) h =
      let rest = to_clauses (p ∷ us) h.3 in
      (rw h.1 rest.0, rw h.0 rest.1, rw (le-leb (p.start + prefix_of l) o.start h.2) rest.2)

  from_past : (w : ℕ) (us : List Begun) → past_prefix l w us ≡ true → Written w us
  unfolding past_prefix
  from_past w [] e = false≢true e
  from_past w (o ∷ us) e = leb-true (o.start + prefix_of l) w e

  to_past : (w : ℕ) (us : List Begun) → Written w us → past_prefix l w us ≡ true
  unfolding past_prefix
  to_past w [] h = absurd h
  to_past w (o ∷ us) h = le-leb (o.start + prefix_of l) w h

  some : (us : List Begun) → Nested us → 1 ≤ length us
  some [] h = absurd h
  some (o ∷ us) h = omega arith

  module _ (n : ℕ) (p : BuilderPlace) where
    pub fitting_nested : Fitting l n p → Nested p.units × Written p.written p.units
    fitting_nested f = (from_clauses p.units f.kinds f.states f.starts, from_past p.written p.units f.past)

    pub nested_fitting : p.written ≤ n → p.written ≤ l.limit → Nested p.units → Written p.written p.units → Fitting l n p
    nested_fitting room within h w =
        let c = to_clauses p.units h in
        record {
          within = room;
          limit = within;
          some = some p.units h;
          five = omega (arith, at_most_four p.units c.0);
          kinds = c.0;
          states = c.1;
          starts = c.2;
          past = to_past p.written p.units w;
        }

  -- Those around a unit lie in one another too,
  pub outside : (inner : List Begun) (o : Begun) (outer : List Begun) → Nested (inner ++ (o ∷ outer)) → Nested (o ∷ outer)
  outside [] o outer h = h
  outside (x ∷ []) o outer h = h.3
  outside (x ∷ y ∷ inner) o outer h = outside (y ∷ inner) o outer h.3

  -- and their prefixes are written.
  pub outside_written : (w : ℕ) (inner : List Begun) (o : Begun) (outer : List Begun) → Nested (inner ++ (o ∷ outer)) →
      Written w (inner ++ (o ∷ outer)) → Written w (o ∷ outer)
  outside_written w [] o outer h e = e
  outside_written w (x ∷ []) o outer h e = omega (arith, h.2)
  outside_written w (x ∷ y ∷ inner) o outer h e = outside_written w (y ∷ inner) o outer h.3 (omega (arith, h.2))

  -- They stay so as the innermost takes in a unit, and stays the same one.
  pub took : (o : Begun) (os : List Begun) (state : ℕ) → unit_of state ≡ unit_of o.state → buildable state ≡ true → Nested (o ∷ os) →
      Nested (record { state = state; start = o.start } ∷ os)
  took o [] state stays b h = (b, rw stays h.1, h.2)
  took o (p ∷ os) state stays b h = (b, rw stays h.1, h.2, h.3)
