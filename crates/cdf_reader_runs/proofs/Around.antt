-- Open units that lie in one another and have a position in the innermost: when a place with them fits.
use Rattle.std.proofs.Common.{ℕ, suc, ◌+◌, ◌*◌, ◌≤◌, ◌≡◌, refl, ap, Bool, true, false, cond, List, [], ◌∷◌, arith, leb-true, le-leb, eq-eqb, eqb-true}
use Rattle.std.proofs.Common.{leb, eqb, length}
use Rattle.std.proofs.lemmas.Bool.{false≢true}
use Rattle.cdf_unit_table.specs.States.{unit_of, nothing, opens, complete, admits_kind}
use Rattle.cdf_unit_table.proofs.Bools.{both, of_cond}
use Rattle.cdf_unit_table.proofs.Heights.{opens_lower}
use Rattle.cdf_unit_prefix.specs.Layout.{Layout, prefix_of}
use Rattle.cdf_unit_list.specs.Units.{after}
use Rattle.cdf_unit_list.specs.Stack.{Closing, incomplete, left, close, opened, with_state}
use Rattle.cdf_unit_list.specs.declared.Unit.{Unit}
use Rattle.cdf_unit_list.specs.declared.Open.{Open}
use Rattle.cdf_unit_list.proofs.Stepping.{fresh}
use Rattle.cdf_reader_spec.specs.Place.{ReaderPlace, nested, positioned, at_last, fits}
use Rattle.cdf_reader_spec.specs.Closing.{unclosed_ranks}
use Rattle.cdf_reader_spec.specs.Ranking.{next_rank}
use Rattle.cdf_reader_spec.specs.Calls.{place_at}
use Rattle.cdf_reader_spec.specs.Tests.{under, chain}
use Rattle.cdf_reader_spec.proofs.Fitting.{Low, fitting, fits_true}
use Rattle.cdf_reader_spec.proofs.Opened.{kinds_states, at_most_four, chain_clauses, clauses_chain}
use Rattle.cdf_reader_runs.proofs.Ranking.{Ranked, low_later, low_on}

module _ (l : Layout) where
  -- The position lies in the innermost unit, past its prefix: the test as a fact, and back.
  pub lies : (pos : ℕ) (o : Open) (os : List Open) → positioned l pos (o ∷ os) ≡ true → (o.start + prefix_of l ≤ pos) × (pos ≤ o.end)
  unfolding positioned
  lies pos o os e =
      let w = both (leb (o.start + prefix_of l) pos) (leb pos o.end) e in
      (leb-true (o.start + prefix_of l) pos w.0, leb-true pos o.end w.1)

  pub position_in : (pos : ℕ) (o : Open) (os : List Open) → o.start + prefix_of l ≤ pos → pos ≤ o.end → positioned l pos (o ∷ os) ≡ true
  unfolding positioned
  position_in pos o os p q = rw (le-leb (o.start + prefix_of l) pos p, le-leb pos o.end q)

module _ (l : Layout) (n : ℕ) where
  -- The units lie in one another, the outermost spans the n bytes, and the innermost has the position.
  pub record Around (pos : ℕ) (os : List Open) : Type 0 where
    pub chained : chain l n os ≡ true
    pub position : positioned l pos os ≡ true

  -- What a unit has to do with the one outside it, and that one with the others.
  pub record Inside (o p : Open) (os : List Open) : Type 0 where
    pub kind : admits_kind (unit_of p.state) (unit_of o.state) ≡ true
    pub start : p.start + prefix_of l ≤ o.start
    pub end : o.end ≤ p.end
    pub rest : chain l n (p ∷ os) ≡ true

  -- The test of the chain as facts, and back.
  inside : (o p : Open) (os : List Open) → chain l n (o ∷ p ∷ os) ≡ true → Inside o p os
  unfolding chain nested
  inside o p os e =
      let w = both (under l p o) _ e in
      let x = both (admits_kind (unit_of p.state) (unit_of o.state)) _ w.0 in
      let y = both (leb (p.start + prefix_of l) o.start) (leb o.end p.end) x.1 in
      record {
        kind = x.0;
        start = leb-true (p.start + prefix_of l) o.start y.0;
        end = leb-true o.end p.end y.1;
        rest = w.1;
      }

  pub chain_on : (o p : Open) (os : List Open) → Inside o p os → chain l n (o ∷ p ∷ os) ≡ true
  unfolding chain nested
  chain_on o p os i =
      rw (i.kind, le-leb (p.start + prefix_of l) o.start i.start, le-leb o.end p.end i.end) i.rest

  -- They stay so as the innermost takes in a child, and stays the same unit.
  pub with_state_lem : (o : Open) (os : List Open) (state : ℕ) → unit_of state ≡ unit_of o.state → chain l n (o ∷ os) ≡ true →
      chain l n (with_state o state ∷ os) ≡ true
  unfolding chain nested with_state
  with_state_lem o [] state stays e = rw stays e
  with_state_lem o (p ∷ os) state stays e = rw stays e

  -- Those that closing leaves, if it leaves any, are around the position.
  abbrev pub Held : ℕ → List Open → Type 0
  Held pos [] = record {}
  Held pos (o ∷ os) = Around pos (o ∷ os)

  abbrev pub OfClosing : ℕ → Closing → Type 0
  OfClosing pos (incomplete at) = record {}
  OfClosing pos (left os) = Held pos os

  -- A unit that ends at the position leaves it to the one outside.
  outside : (pos : ℕ) (o : Open) (os : List Open) → o.end ≡ pos → Around pos (o ∷ os) → Held pos os
  outside pos o [] at a = record {}
  outside pos o (p ∷ os) at a =
      let i = inside o p os a.chained in
      let w = lies l pos o (p ∷ os) a.position in
      record { chained = i.rest; position = position_in l pos p os (omega arith) (omega arith) }

  pub close_held : (pos : ℕ) (os : List Open) → Held pos os → OfClosing pos (close os pos)
  unfolding close
  close_held pos [] h = record {}
  close_held pos (o ∷ os) h =
      of_cond (OfClosing pos) (eqb o.end pos) _ (left (o ∷ os))
      (λ e. of_cond (OfClosing pos) (complete o.state) (close os pos) (incomplete o.start)
      (λ c. close_held pos os (outside pos o os (eqb-true o.end pos e) h)) (λ c. record {}))
      (λ e. h)

  -- An empty list of them is no matter.
  held : (pos : ℕ) (os : List Open) → Around pos os → Held pos os
  held pos [] a = record {}
  held pos (o ∷ os) a = a

  -- A place that fits has them around its position.
  pub fitting_held : (p : ReaderPlace) → fits l n p ≡ true → Held p.position p.units
  fitting_held p e =
      let f = fitting l n p e in
      held p.position p.units
      (record { chained = clauses_chain l n p.units f.kinds f.starts f.ends; position = f.position })

  -- There is one at least.
  some : (os : List Open) → chain l n os ≡ true → 1 ≤ length os
  unfolding chain nested
  some [] e = absurd (false≢true e)
  some (o ∷ os) e = omega arith

  -- What a unit that a step finds has to keep: its bounds, and by its kind what is open after it.
  pub record Enters (u : Unit) (os : List Open) : Type 0 where
    pub own : u.start + prefix_of l ≤ u.own
    pub end : u.own ≤ u.end
    pub within : u.end ≤ n
    pub parent : opens u.id ≡ true → chain l n (fresh u ∷ os) ≡ true
    pub leaf : opens u.id ≡ false → Around u.end os

  -- A place fits that has such a unit as its last, with units open around its position and ranks that are low.
  fits_around : (p : ReaderPlace) {os : List Open} → Enters p.last os → Around p.position p.units →
      (p.fresh ≡ true → at_last p.position p.units p.last ≡ true) → length p.ranks ≡ length p.units →
      p.last_rank * prefix_of l ≤ p.position → Low l p.position p.ranks → fits l n p ≡ true
  fits_around p e a last each last_rank ranks =
      let w = chain_clauses l n p.units a.chained in
      fits_true l n p (record {
        some = some p.units a.chained;
        five = omega (arith, at_most_four p.units w.0);
        kinds = w.0;
        states = kinds_states p.units w.0;
        starts = w.1;
        ends = w.2;
        position = a.position;
        own = e.own;
        end = e.end;
        within = e.within;
        last = last;
        each = each;
        last_rank = last_rank;
        ranks = ranks;
      })

  -- A unit that was just entered is the last one, as the clause on the flag asks.
  fresh_last : (u : Unit) (os : List Open) → opens u.id ≡ true → at_last u.own (fresh u ∷ os) u ≡ true
  unfolding at_last
  fresh_last u os e =
      let own = (opens_lower u.id e).own in
      rw (
        own,
        eq-eqb u.id u.id refl,
        eq-eqb u.start u.start refl,
        eq-eqb u.end u.end refl,
        eq-eqb (nothing u.id) (nothing u.id) refl,
        eq-eqb u.own u.own refl,
      )

  -- After a unit that is entered from a place whose ranks are low the place fits.
  pub enters_fit : (p : ReaderPlace) (u : Unit) (os : List Open) → Enters u os → Ranked l p u.start os →
      fits l n (place_at p u (opened u os) (after u)) ≡ true
  unfolding opened after
  enters_fit p u os e r = go (opens u.id) refl
    where
      left : List ℕ
      left = unclosed_ranks p.units p.ranks p.position

      go : (b : Bool) → opens u.id ≡ b →
          fits l n (record {
            position = cond b u.own u.end;
            units = cond b (fresh u ∷ os) os;
            last = u;
            fresh = b;
            ranks = cond b (next_rank p ∷ left) left;
            last_rank = next_rank p;
          }) ≡ true
      go true x =
          let a : Around u.own (fresh u ∷ os) = record {
            chained = e.parent x;
            position = position_in l u.own (fresh u) os e.own e.end;
          } in
          fits_around _ e a (λ _. fresh_last u os x) (ap suc r.each) (omega (arith, r.next, e.own))
          (low_on l u.own (next_rank p) left (omega (arith, r.next, e.own)) (low_later l u.start u.own (omega (arith, e.own)) left r.low))
      go false x =
          fits_around _ e (e.leaf x) (λ z. absurd (false≢true z)) r.each (omega (arith, r.next, e.own, e.end))
          (low_later l u.start u.end (omega (arith, e.own, e.end)) left r.low)
