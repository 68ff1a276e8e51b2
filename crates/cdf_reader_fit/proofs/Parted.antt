-- Whether a place fits, by its parts and in the order of the code's tests.
use Rattle.std.proofs.Common.{ℕ, zero, suc, ◌+◌, ◌*◌, ◌≤◌, ◌<◌, ◌≡◌, refl, sym, ◌∙◌, Bool, true, false, not, ◌&&◌, ◌||◌, List, ◌∷◌, arith, leb-true}
use Rattle.std.proofs.Common.{le-leb, eqb-true, eq-eqb, leb, eqb, length}
use Rattle.std.proofs.lemmas.Bool.{false≢true, lt-leb}
use Rattle.cdf_unit_table.specs.States.{unit_of, nothing}
use Rattle.cdf_unit_table.proofs.Bools.{both}
use Rattle.cdf_unit_table.proofs.Rows.{opens_by}
use Rattle.cdf_unit_table.proofs.Heights.{opens_lower}
use Rattle.cdf_unit_prefix.specs.Layout.{Layout, prefix_of}
use Rattle.cdf_unit_list.specs.declared.Unit.{Unit}
use Rattle.cdf_unit_list.specs.declared.Open.{Open}
use Rattle.cdf_reader_spec.specs.Place.{every, is_state, positioned, at_last, fits}
use Rattle.cdf_reader_spec.specs.Slots.{around, open_units, open_ranks, place_of}
use Rattle.cdf_reader_spec.specs.Tests.{chain, just_entered}
use Rattle.cdf_reader_spec.specs.declared.Ranks.{Ranks}
use Rattle.cdf_reader_spec.proofs.Counted.{length_open, length_held}
use Rattle.cdf_reader_spec.proofs.Fitting.{Fitting, fitting, fits_true, flag_fact, flag_test}
use Rattle.cdf_reader_spec.proofs.Opened.{kinds_states, at_most_four, chain_clauses, clauses_chain}

-- A test that cannot pass fails.
pub no : (b : Bool) → (b ≡ true → ⊥) → false ≡ b
no true h = absurd (h refl)
no false h = refl

-- The last unit is the innermost and was just entered: as the clause says it, and as the code asks it.
last_entered : (position : ℕ) (o : Open) (os : List Open) (u : Unit) → at_last position (o ∷ os) u ≡ true → just_entered position o u ≡ true
unfolding at_last
last_entered position o os u e =
    let w = both (eqb (unit_of o.state) u.id && (eqb o.start u.start && eqb o.end u.end)) _ e in
    let x = both (eqb (unit_of o.state) u.id) _ w.0 in
    let y = both (eqb o.start u.start) (eqb o.end u.end) x.1 in
    let z = both (eqb o.state (nothing (unit_of o.state))) (eqb position u.own) w.1 in
    let id = eqb-true (unit_of o.state) u.id x.0 in
    let state = eqb-true o.state (nothing (unit_of o.state)) z.0 in
    rw (
      eq-eqb (nothing u.id) o.state (rw (← id) (sym state)),
      eq-eqb u.start o.start (sym (eqb-true o.start u.start y.0)),
      eq-eqb u.end o.end (sym (eqb-true o.end u.end y.1)),
      z.1,
    )

entered_last : (position : ℕ) (o : Open) (os : List Open) (u : Unit) → is_state o.state ≡ true → just_entered position o u ≡ true →
    at_last position (o ∷ os) u ≡ true
unfolding at_last
entered_last position o os u s e =
    let w = both (eqb (nothing u.id) o.state) _ e in
    let x = both (eqb u.start o.start) _ w.1 in
    let y = both (eqb u.end o.end) (eqb position u.own) x.1 in
    let state = eqb-true (nothing u.id) o.state w.0 in
    let some : o.state ≡ 0 → ⊥ = λ z. omega (arith, leb-true 1 o.state (both (leb 1 o.state) _ s).0) in
    let id : unit_of o.state ≡ u.id = rw (← state) (opens_lower u.id (opens_by u.id o.state (sym state) some)).own in
    rw (
      eq-eqb (unit_of o.state) u.id id,
      eq-eqb o.start u.start (sym (eqb-true u.start o.start x.0)),
      eq-eqb o.end u.end (sym (eqb-true u.end o.end y.0)),
      eq-eqb o.state (nothing (unit_of o.state)) (rw id (sym state)),
      y.1,
    )

-- A struct has as many ranks as units.
as_many : (count : ℕ) (ks : Ranks) (top o1 o2 o3 : Open) → length (open_ranks count ks) ≡ length (open_units count top o1 o2 o3)
unfolding open_ranks
as_many count ks top o1 o2 o3 = length_held 0 count ks.top ks.r1 ks.r2 ks.r3 ∙ sym (length_open count top o1 o2 o3)

module _ (l : Layout) (n position count : ℕ) (top o1 o2 o3 : Open) (last : Unit) (fresh : Bool) (ks : Ranks) where
  -- What is asked of the position and of the flag is asked of the innermost unit, where there is one.
  top_position : (k : ℕ) → positioned l position (open_units k top o1 o2 o3) ≡ true →
      (leb (top.start + prefix_of l) position ≡ true) × (leb position top.end ≡ true)
  unfolding positioned open_units
  top_position zero e = absurd (false≢true e)
  top_position (suc k) e = both (leb (top.start + prefix_of l) position) (leb position top.end) e

  top_last : (k : ℕ) → at_last position (open_units k top o1 o2 o3) last ≡ true → just_entered position top last ≡ true
  unfolding open_units at_last
  top_last zero e = absurd (false≢true e)
  top_last (suc k) e = last_entered position top (around o1 o2 o3 k) last e

  abbrev Fits : Bool
  Fits = fits l n (place_of position count top o1 o2 o3 last fresh ks)

  facts : Fits ≡ true → Fitting l n (place_of position count top o1 o2 o3 last fresh ks)
  facts = fitting l n (place_of position count top o1 o2 o3 last fresh ks)

  pub past_not : leb (top.start + prefix_of l) position ≡ false → false ≡ Fits
  past_not e = no Fits (λ h. absurd (false≢true (sym e ∙ (top_position count (facts h).position).0)))

  pub end_not : top.end < position → false ≡ Fits
  end_not e = no Fits (λ h. absurd (false≢true (sym (lt-leb position top.end e) ∙ (top_position count (facts h).position).1)))

  abbrev Bounds : Bool
  Bounds = leb (last.start + prefix_of l) last.own && (leb last.own last.end && leb last.end n)

  bounds : Fitting l n (place_of position count top o1 o2 o3 last fresh ks) → Bounds ≡ true
  bounds f =
      rw (
        le-leb (last.start + prefix_of l) last.own f.own,
        le-leb last.own last.end f.end,
        le-leb last.end n f.within,
      )

  pub bounds_not : Bounds ≡ false → false ≡ Fits
  bounds_not e = no Fits (λ h. absurd (false≢true (sym e ∙ bounds (facts h))))

  pub last_not : (not fresh || just_entered position top last) ≡ false → false ≡ Fits
  last_not e =
      no Fits (λ h. absurd (false≢true (sym e ∙ flag_test fresh (just_entered position top last) (λ x. top_last count ((facts h).last x)))))

  -- The ranks of the open units, and the last unit's.
  abbrev Lows : Bool
  Lows = every (λ k. leb (k * prefix_of l) position) (ks.last ∷ open_ranks count ks)

  lows : Fitting l n (place_of position count top o1 o2 o3 last fresh ks) → Lows ≡ true
  unfolding every
  lows f = rw (le-leb (ks.last * prefix_of l) position f.last_rank, f.ranks)

  pub ranks_not : Lows ≡ false → false ≡ Fits
  ranks_not e = no Fits (λ h. absurd (false≢true (sym e ∙ lows (facts h))))

  -- All the other tests passed: it fits exactly if the open units do.
  module _ (low : leb (top.start + prefix_of l) position ≡ true) (high : position ≤ top.end) (bound : Bounds ≡ true)
      (flag : (not fresh || just_entered position top last) ≡ true) (ranked : Lows ≡ true) where
    fit : (k : ℕ) → k ≡ count → chain l n (open_units k top o1 o2 o3) ≡ true → Fitting l n (place_of position k top o1 o2 o3 last fresh ks)
    unfolding open_units chain positioned every
    fit zero same e = absurd (false≢true e)
    fit (suc k) same e =
        let r = both (leb (ks.last * prefix_of l) position) _ ranked in
        let os = top ∷ around o1 o2 o3 k in
        let w = chain_clauses l n os e in
        let states = kinds_states os w.0 in
        let x = both (leb (last.start + prefix_of l) last.own) _ bound in
        let y = both (leb last.own last.end) (leb last.end n) x.1 in
        record {
          some = omega arith;
          five = omega (arith, at_most_four os w.0);
          kinds = w.0;
          states = states;
          starts = w.1;
          ends = w.2;
          position = rw (low, le-leb position top.end high);
          own = leb-true (last.start + prefix_of l) last.own x.0;
          end = leb-true last.own last.end y.0;
          within = leb-true last.end n y.1;
          last = λ x.
              entered_last position top (around o1 o2 o3 k) last (both (is_state top.state) _ states).0
              (flag_fact fresh (just_entered position top last) flag x);
          each = as_many (suc k) ks top o1 o2 o3;
          last_rank = leb-true (ks.last * prefix_of l) position r.0;
          ranks = rw same r.1;
        }

    pub by_chain : chain l n (open_units count top o1 o2 o3) ≡ Fits
    by_chain = go (chain l n (open_units count top o1 o2 o3)) refl
      where
        go : (b : Bool) → chain l n (open_units count top o1 o2 o3) ≡ b → b ≡ Fits
        go true e = sym (fits_true l n (place_of position count top o1 o2 o3 last fresh ks) (fit count refl e))
        go false e =
            no Fits (λ h. let f = facts h in
            absurd (false≢true (sym e ∙ clauses_chain l n (open_units count top o1 o2 o3) f.kinds f.starts f.ends)))
