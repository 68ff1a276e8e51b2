-- A search keeps what it has found in the bytes, and at the end the walk has what the definitions say.
use Rattle.std.proofs.Common.{ℕ, ◌≡◌, refl, sym, ap, ◌∙◌, Bool, true, false, cond, List, [], arith, eqb-true, eqb, ltb, length}
use Rattle.std.proofs.lemmas.Bool.{eqb-false}
use Rattle.std.specs.Prelude.{None, Ok, Err}
use Rattle.cdf_refusal.specs.Numbers.{number_of}
use Rattle.cdf_refusal.specs.declared.Refusal.{Refusal}
use Rattle.cdf_unit_table.specs.Ids.{template, field}
use Rattle.cdf_unit_table.proofs.Bools.{of_cond, clash}
use Rattle.cdf_unit_prefix.specs.Layout.{Layout}
use Rattle.cdf_unit_list.specs.Units.{listing}
use Rattle.cdf_unit_list.specs.Check.{check_of}
use Rattle.cdf_unit_list.specs.Ranks.{ranked_units}
use Rattle.cdf_unit_list.specs.declared.Unit.{Unit}
use Rattle.cdf_unit_list.specs.declared.Ranked.{Ranked}
use Rattle.cdf_reader_spec.specs.Calls.{Reply, next_of}
use Rattle.cdf_reader_runs.specs.Runs.{afterwards}
use Rattle.cdf_reader_runs.proofs.Folding.{unranked, Going, Turn, over}
use Rattle.cdf_lookup_spec.specs.Find.{Query, at_span, named, is_that_key, is_group}
use Rattle.cdf_lookup_spec.specs.Search.{advance_of, outcome_of, search_of}
use Rattle.cdf_lookup_spec.specs.declared.Search.{Search}
use Rattle.cdf_lookup_spec.specs.declared.Search.TheVariants.{Seeking, Named, Inside, Over}
use Rattle.cdf_lookup_spec.proofs.Telling.{span_is}
use Rattle.cdf_lookup_spec.proofs.Choosing.{check_numbers}
use Rattle.cdf_lookup_search.specs.Over.{is_over}
use Rattle.cdf_lookup_search.specs.Placed.{Lies, Placed}
use Rattle.cdf_lookup_search.specs.Walking.{walked_of, Tells}

pub nowhere : (n : ℕ) → Placed n None
nowhere n start end e = clash cc

module _ (l : Layout) (s : List ℕ) (q : Query) where
  -- One more unit; where it stands in the tree does not matter.
  abbrev pub seek : Search → Ranked → Search
  seek state r = advance_of l s q state r.unit

  -- What one more unit leaves lies in the bytes.
  placed_on : (n : ℕ) (state : Search) (u : Unit) → Lies l n u → Placed n (outcome_of state) → Placed n (outcome_of (advance_of l s q state u))
  unfolding advance_of
  placed_on n Seeking u lies p =
      of_cond (λ (x : Search). Placed n (outcome_of x)) (named l s template q.template u) _ _ (λ e. nowhere n) (λ e. nowhere n)
  placed_on n (Named end) u lies p =
      of_cond (λ (x : Search). Placed n (outcome_of x)) (is_that_key l s q.key_id q.key u) _ _ (λ e. nowhere n) (λ e. nowhere n)
  placed_on n (Inside end) u lies p =
      of_cond (λ (x : Search). Placed n (outcome_of x)) (ltb u.start end) _ _
      (λ e. of_cond (λ (x : Search). Placed n (outcome_of x)) (named l s field q.field u) _ _ (λ f. value) (λ f. nowhere n))
      (λ e. nowhere n)
    where
      value : Placed n (at_span u.own u.end)
      value start end e =
          let (begins, ends) = span_is (record { start = u.own; end = u.end }) (record { start = start; end = end }) e in
          (omega (arith, lies.end), omega (arith, lies.within))
  placed_on n (Over v) u lies p = p

  -- Where the search is over it need not be asked.
  pub stays : (state : Search) (u : Unit) → is_over state ≡ true → state ≡ advance_of l s q state u
  unfolding advance_of
  stays Seeking u e = clash cc
  stays (Named end) u e = clash cc
  stays (Inside end) u e = clash cc
  stays (Over v) u e = refl

  -- A unit was handed out, and r is the search with it.
  module _ (a : Reply) (state : Search) (w : Turn seek l s Seeking a state) where
    pub lies_in : Lies l (length s) a.handed.unit
    lies_in = record { own = w.own; end = w.end; within = w.within }

    module _ (r : Search) (e : r ≡ advance_of l s q state a.handed.unit) where
      pub goes_on : Going seek l s Seeking (next_of l s a.place) r
      goes_on = rw e w.next

      pub keeps_place : Placed (length s) (outcome_of state) → Placed (length s) (outcome_of r)
      keeps_place p = rw e (placed_on (length s) state a.handed.unit lies_in p)

  searched : (a : Reply) (state : Search) → Going seek l s Seeking a state → (a.number ≡ 0 → ⊥) →
      outcome_of state ≡ search_of l s q
  unfolding search_of ranked_units
  searched a state g some =
      sym (ap outcome_of (sym (unranked (advance_of l s q) Seeking [] (listing l s).units) ∙ (over seek l s Seeking a state g some).all))

  -- Where the walk ends: with 1 the check accepts,
  module _ (a : Reply) (state : Search) (g : Going seek l s Seeking a state) where
    pub accepted : (group : Bool) → group ≡ is_group (listing l s).units → a.number ≡ 1 →
        Tells (Ok (record { group = group; value = outcome_of state })) (walked_of l s q)
    unfolding walked_of afterwards
    accepted group e z = go (eqb (check_of l s).number 0) refl (over seek l s Seeking a state g (λ x. omega arith)).number
      where
        go : (b : Bool) → eqb (check_of l s).number 0 ≡ b → a.number ≡ (afterwards (check_of l s)).number →
            Tells (Ok (record { group = group; value = outcome_of state })) (walked_of l s q)
        go true f n = (eqb-true (check_of l s).number 0 f, e, searched a state g (λ x. omega arith))
        go false f n =
            let same : a.number ≡ (check_of l s).number = rw f at n in
            absurd (omega (arith, check_numbers l s (eqb-false (check_of l s).number 0 f)))

    -- and with any other number it is the check's.
    module _ (some : a.number ≡ 0 → ⊥) (more : a.number ≡ 1 → ⊥) where
      told : (a.number ≡ (check_of l s).number) × ((check_of l s).number ≡ 0 → ⊥)
          × (a.offset ≡ cond (eqb (check_of l s).number 0) 0 (check_of l s).value)
      unfolding afterwards
      told =
          let o = over seek l s Seeking a state g some in
          go (eqb (check_of l s).number 0) refl o.number o.offset
        where
          go : (b : Bool) → eqb (check_of l s).number 0 ≡ b → a.number ≡ (afterwards (check_of l s)).number →
              a.offset ≡ (afterwards (check_of l s)).offset →
              (a.number ≡ (check_of l s).number) × ((check_of l s).number ≡ 0 → ⊥)
              × (a.offset ≡ cond (eqb (check_of l s).number 0) 0 (check_of l s).value)
          go true f n k = absurd (more (rw f at n))
          go false f n k = (rw f at n, eqb-false (check_of l s).number 0 f, rw f (rw f at k))

      pub refused : (group : Bool) → group ≡ is_group (listing l s).units → (r : Refusal) → number_of r ≡ a.number →
          Tells (Err (record { fault = record { refusal = r; offset = a.offset }; met = record { group = group; value = outcome_of state } })) (walked_of l s q)
      unfolding walked_of
      refused group h r e = (e ∙ told.0, told.2, h, searched a state g some)
