-- The tests of the code, in their order: a place fits exactly if its open units hold, where all before was passed.
use Rattle.std.proofs.Common.{ℕ, zero, suc, ◌+◌, ◌*◌, ◌/◌, ◌≤◌, ◌<◌, ◌≡◌, refl, sym, ap, ◌∙◌, Bool, true, false, not, cond, ◌&&◌, ◌||◌, List, [], ◌∷◌}
use Rattle.std.proofs.Common.{arith, leb-true, le-leb, eqb-true, leb, eqb}
use Rattle.std.proofs.lemmas.Bool.{false≢true, lt-leb}
use Rattle.cdf_unit_table.specs.States.{nothing}
use Rattle.cdf_unit_table.proofs.Bools.{both}
use Rattle.cdf_unit_prefix.specs.Layout.{Layout, layout_of, prefix_of}
use Rattle.cdf_unit_prefix.specs.declared.Edition.{Edition}
use Rattle.cdf_unit_list.specs.declared.Open.{Open}
use Rattle.cdf_reader_spec.specs.Place.{every, fits}
use Rattle.cdf_reader_spec.specs.Slots.{around, open_units, open_ranks}
use Rattle.cdf_reader_spec.specs.Tests.{chain, just_entered}
use Rattle.cdf_reader_spec.proofs.Fitting.{fitting}
use Rattle.cdf_reader_spec.proofs.Opened.{chain_clauses, clauses_chain}
use Rattle.cdf_reader_spec.proofs.Suffix.{ends_most}
use Rattle.cdf_reader_fit.proofs.Lows.{by_quotient}
use Rattle.cdf_reader_fit.proofs.Parted.{no, past_not, end_not, bounds_not, last_not, ranks_not, by_chain}
use Rattle.cdf_reader.specs.View.{view}
use Rattle.cdf_reader.specs.declared.Place.{Place}
use Rattle.cdf_reader_open_numbers.specs.Held.{held, lasts}

every_same : {A : Type 0} (f g : A → Bool) → ((x : A) → f x ≡ g x) → (xs : List A) → every f xs ≡ every g xs
unfolding every
every_same f g same [] = refl
every_same f g same (x ∷ xs) = rw (same x, every_same f g same xs)

-- The innermost unit of a chain ends in the bytes.
ends_in : (l : Layout) (n count : ℕ) (top o1 o2 o3 : Open) → chain l n (open_units count top o1 o2 o3) ≡ true → top.end ≤ n
unfolding open_units chain
ends_in l n zero top o1 o2 o3 e = absurd (false≢true e)
ends_in l n (suc k) top o1 o2 o3 e = ends_most n top (around o1 o2 o3 k) (chain_clauses l n (top ∷ around o1 o2 o3 k) e).2

module _ (edition : Edition) (n : ℕ) (p : Place) where
  abbrev l : Layout
  l = layout_of edition

  abbrev Fits : Bool
  Fits = fits l n (view p)

  abbrev Entered : Bool
  Entered = just_entered p.position p.units.top p.last

  abbrev Bounds : Bool
  Bounds = leb (p.last.start + prefix_of l) p.last.own && (leb p.last.own p.last.end && leb p.last.end n)

  abbrev Chain : Bool
  Chain = chain l n (open_units p.units.count p.units.top p.units.o1 p.units.o2 p.units.o3)

  abbrev Low : ℕ → Bool
  Low k = leb (k * prefix_of l) p.position

  pub not_past : leb (p.units.top.start + prefix_of l) p.position ≡ false → false ≡ Fits
  not_past = past_not l n p.position p.units.count p.units.top p.units.o1 p.units.o2 p.units.o3 p.last p.fresh p.ranks

  pub not_in : p.units.top.end < p.position → false ≡ Fits
  not_in = end_not l n p.position p.units.count p.units.top p.units.o1 p.units.o2 p.units.o3 p.last p.fresh p.ranks

  pub not_last : lasts l n p ≡ false → false ≡ Fits
  not_last = go p.fresh refl
    where
      go : (b : Bool) → p.fresh ≡ b → cond b Entered Bounds ≡ false → false ≡ Fits
      go true f e =
          last_not l n p.position p.units.count p.units.top p.units.o1 p.units.o2 p.units.o3 p.last p.fresh p.ranks (rw (f, e))
      go false f e = bounds_not l n p.position p.units.count p.units.top p.units.o1 p.units.o2 p.units.o3 p.last p.fresh p.ranks e

  -- A rank is at most the quotient if its product is at most the position.
  module _ (most : ℕ) (is : most ≡ p.position / prefix_of l) where
    low : (k : ℕ) → leb k most ≡ Low k
    low k = rw is (by_quotient edition k p.position)

    pub not_ranked : most < p.ranks.last → false ≡ Fits
    unfolding every
    not_ranked h =
        ranks_not l n p.position p.units.count p.units.top p.units.o1 p.units.o2 p.units.o3 p.last p.fresh p.ranks
        (rw (sym (low p.ranks.last) ∙ lt-leb p.ranks.last most h))

    module _ (past : leb (p.units.top.start + prefix_of l) p.position ≡ true) (within : p.position ≤ p.units.top.end)
        (last : lasts l n p ≡ true) (rank : p.ranks.last ≤ most) where
      -- What the flag asks; where it is on, the last unit is the innermost, whose bounds were asked already.
      flagged : (b : Bool) → cond b Entered Bounds ≡ true → (not b || Entered) ≡ true
      flagged true e = e
      flagged false e = refl

      bounded : Chain ≡ true → (b : Bool) → cond b Entered Bounds ≡ true → Bounds ≡ true
      bounded c true e =
          let w = both (eqb (nothing p.last.id) p.units.top.state) _ e in
          let x = both (eqb p.last.start p.units.top.start) _ w.1 in
          let y = both (eqb p.last.end p.units.top.end) (eqb p.position p.last.own) x.1 in
          let start = eqb-true p.last.start p.units.top.start x.0 in
          let end = eqb-true p.last.end p.units.top.end y.0 in
          let own = eqb-true p.position p.last.own y.1 in
          let in_bytes = ends_in l n p.units.count p.units.top p.units.o1 p.units.o2 p.units.o3 c in
          rw (
            le-leb p.last.own p.last.end (omega arith),
            le-leb p.last.end n (omega arith),
            le-leb (p.last.start + prefix_of l) p.last.own
                (omega (arith, leb-true (p.units.top.start + prefix_of l) p.position past, start, own)),
          )
      bounded c false e = e

      abbrev Lows : Bool
      Lows = every Low (open_ranks p.units.count p.ranks)

      last_low : Low p.ranks.last ≡ true
      last_low = sym (low p.ranks.last) ∙ le-leb p.ranks.last most rank

      by_both : (c : Bool) → Chain ≡ c → (r : Bool) → Lows ≡ r → (c && r) ≡ Fits
      unfolding every
      by_both true c true r =
          sym c
          ∙ by_chain l n p.position p.units.count p.units.top p.units.o1 p.units.o2 p.units.o3 p.last p.fresh p.ranks past within
          (bounded c p.fresh last) (flagged p.fresh last) (rw (last_low, r))
      by_both true c false r =
          ranks_not l n p.position p.units.count p.units.top p.units.o1 p.units.o2 p.units.o3 p.last p.fresh p.ranks (rw (last_low, r))
      by_both false c r _ =
          no Fits (λ h. let f = fitting l n (view p) h in
          absurd (false≢true
          (sym c ∙ clauses_chain l n (open_units p.units.count p.units.top p.units.o1 p.units.o2 p.units.o3) f.kinds f.starts f.ends)))

      pub by_held : held l n most p p.units.count ≡ Fits
      unfolding held
      by_held =
          ap (λ b. Chain && b) (every_same (λ k. leb k most) Low low (open_ranks p.units.count p.ranks)) ∙ by_both Chain refl Lows refl
