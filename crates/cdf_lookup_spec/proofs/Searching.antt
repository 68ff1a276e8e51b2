-- One pass over the units finds what the definition says, where their starts rise and behind each template stands its first key.
use Rattle.std.proofs.Common.{ℕ, suc, ◌≤◌, ◌<◌, ◌≡◌, refl, sym, ◌∙◌, Bool, true, false, cond, ◌&&◌, List, [], ◌∷◌, ◌⊎◌, inl, inr, arith, eqb-true}
use Rattle.std.proofs.Common.{ne_eqb, lt-ltb, le-ltb, ltb-true, ltb-false, eqb, ltb}
use mathlib.Core.List.{foldl, reverse_aux}
use mathlib.Core.Option.{none, some}
use Rattle.cdf_unit_table.specs.Ids.{template, temporary_key, template_key, field}
use Rattle.cdf_unit_table.proofs.Bools.{both}
use Rattle.cdf_unit_prefix.specs.Layout.{Layout}
use Rattle.cdf_unit_list.specs.declared.Unit.{Unit}
use Rattle.cdf_lookup_spec.specs.Find.{Query, reads, named, is_key, is_that_key, inside, first_that, passes, is_that_template}
use Rattle.cdf_lookup_spec.specs.Find.{Value, at_span, value_of, value_inside}
use Rattle.cdf_lookup_spec.specs.Search.{advance_of, outcome_of}
use Rattle.std.specs.Prelude.{None}
use Rattle.cdf_lookup_spec.specs.declared.Search.TheVariants.{Seeking, Inside, Over}
use Rattle.cdf_lookup_spec.proofs.Telling.{key_fact}
use Rattle.cdf_lookup_spec.proofs.Ordered.{Rising, Keyed}

-- Each of these starts before x.
abbrev pub Before : ℕ → List Unit → Type 0
Before x [] = record {}
Before x (v ∷ vs) = (v.start < x) × Before x vs

pub before_on : (x y : ℕ) (vs : List Unit) → x ≤ y → Before x vs → Before y vs
before_on x y [] less b = record {}
before_on x y (v ∷ vs) less b = (omega (arith, b.0), before_on x y vs less b.1)

module _ (t : Unit) (test : Unit → Bool) where
  -- A unit in t that passes.
  abbrev test_in : Unit → Bool
  test_in u = inside t u && test u

  -- A unit that does not start behind the start of t is not in it,
  pub early : (v : Unit) → v.start ≤ t.start → test_in v ≡ false
  unfolding inside
  early v h = rw (le-ltb t.start v.start h)

  pub skip_before : (before us : List Unit) → Before (suc t.start) before → first_that test_in (reverse_aux before us) ≡ first_that test_in us
  unfolding first_that
  skip_before [] us b = refl
  skip_before (v ∷ vs) us b = skip_before vs (v ∷ us) b.1 ∙ rw (early v (omega (arith, b.0)))

  -- nor is one that starts where t ends or later.
  late : (u : Unit) → t.end ≤ u.start → test_in u ≡ false
  unfolding inside
  late u h = rw (le-ltb u.start t.end h) (go (ltb t.start u.start))
    where
      go : (x : Bool) → ((x && false) && test u) ≡ false
      go true = refl
      go false = refl

  none_late : (a b : ℕ) (us : List Unit) → t.end ≤ a → Rising a b us → first_that test_in us ≡ none
  unfolding first_that
  none_late a b [] h r = refl
  none_late a b (u ∷ us) h r =
      rw (late u (omega (arith, r.0))) (none_late (suc u.start) b us (omega (arith, r.0)) r.1)

  -- One that starts in it is judged by the test.
  pub judged : (u : Unit) → t.start < u.start → u.start < t.end → test_in u ≡ test u
  unfolding inside
  judged u h k = rw (lt-ltb t.start u.start h, lt-ltb u.start t.end k)

module _ (l : Layout) (s : List ℕ) (q : Query) where
  -- A key is a unit of no other id.
  key_other : (k : Unit) (id to : ℕ) (text : List ℕ) → is_key k ≡ true → (id ≡ temporary_key → ⊥) → (id ≡ template_key → ⊥) →
      reads l s id text k to ≡ false
  unfolding reads
  key_other k id to text e n m = go (key_fact k e)
    where
      go : (k.id ≡ temporary_key) ⊎ (k.id ≡ template_key) → reads l s id text k to ≡ false
      go (inl x) = rw (ne_eqb k.id id (λ z. n (sym z ∙ x)))
      go (inr x) = rw (ne_eqb k.id id (λ z. m (sym z ∙ x)))

  key_no_field : (k : Unit) → is_key k ≡ true → named l s field q.field k ≡ false
  key_no_field k e = key_other k field k.own q.field e (λ z. omega arith) (λ z. omega arith)

  key_no_template : (k : Unit) → is_key k ≡ true → named l s template q.template k ≡ false
  key_no_template k e = key_other k template k.own q.template e (λ z. omega arith) (λ z. omega arith)

  -- Once it is over nothing changes.
  over_stays : (v : Value) (us : List Unit) → outcome_of (foldl (advance_of l s q) (Over v) us) ≡ v
  unfolding advance_of
  over_stays v [] = refl
  over_stays v (u ∷ us) = over_stays v us

  -- The fields of a template.
  abbrev is_field : Unit → Bool
  is_field = named l s field q.field

  abbrev InsideFinds : Unit → List Unit → Type 0
  InsideFinds t us = outcome_of (foldl (advance_of l s q) (Inside t.end) us) ≡ value_of (first_that (test_in t is_field) us)

  inside_turn : (t u : Unit) (b : ℕ) (us : List Unit) → t.start < u.start → Rising (suc u.start) b us → InsideFinds t us →
      InsideFinds t (u ∷ us)
  unfolding advance_of first_that
  inside_turn t u b us h r more = go (ltb u.start t.end) refl (is_field u) refl
    where
      go : (x : Bool) → ltb u.start t.end ≡ x → (y : Bool) → is_field u ≡ y → InsideFinds t (u ∷ us)
      go true e true f = rw (judged t is_field u h (ltb-true u.start t.end e), e, f) (over_stays (at_span u.own u.end) us)
      go true e false f = rw (judged t is_field u h (ltb-true u.start t.end e), e, f) more
      go false e y f =
          let end = ltb-false u.start t.end e in
          rw (late t is_field u end, none_late t is_field (suc u.start) b us (omega arith) r, e) (over_stays None us)

  inside_finds : (t : Unit) (a b : ℕ) (us : List Unit) → t.start < a → Rising a b us → InsideFinds t us
  unfolding first_that
  inside_finds t a b [] h r = refl
  inside_finds t a b (u ∷ us) h r =
      inside_turn t u b us (omega (arith, r.0)) r.1 (inside_finds t (suc u.start) b us (omega (arith, r.0)) r.1)

  -- What is found from here on, of all units.
  module _ (all : List Unit) where
    abbrev Finds : List Unit → Type 0
    Finds us = outcome_of (foldl (advance_of l s q) Seeking us) ≡ value_inside l s q all (first_that (is_that_template l s q all) us)

    -- Behind a template t that has the name stands its key k.
    module _ (before : List Unit) (t k : Unit) (us : List Unit) (b : ℕ) (whole : all ≡ reverse_aux before (t ∷ k ∷ us))
        (earlier : Before t.start before) (r : Rising t.start b (t ∷ k ∷ us)) (key : is_key k ≡ true) (lies : k.start < t.end) where
      -- Of all units, the first in t that passes is the key or comes behind it.
      in_all : (test : Unit → Bool) → first_that (test_in t test) all ≡ cond (test k) (some k) (first_that (test_in t test) us)
      unfolding first_that
      in_all test =
          rw (
            whole,
            skip_before t test before (t ∷ k ∷ us) (before_on t.start (suc t.start) before (omega arith) earlier),
            early t test t (omega arith),
            judged t test k (omega (arith, r.1.0)) lies,
          )

      -- Its fields are searched if the key is the one, and else the search goes on behind the key.
      named_turn : named l s template q.template t ≡ true → Finds us → Finds (t ∷ k ∷ us)
      unfolding advance_of first_that is_that_template passes value_inside
      named_turn e more = go (is_that_key l s q.key_id q.key k) refl
        where
          go : (x : Bool) → is_that_key l s q.key_id q.key k ≡ x → Finds (t ∷ k ∷ us)
          go true f =
              rw (e, in_all is_key, key, f, in_all is_field, key_no_field k key)
              (inside_finds t (suc k.start) b us (omega (arith, r.1.0)) r.1.1)
          go false f = rw (e, in_all is_key, key, f, key_no_template k key) more

    -- Any other unit is passed.
    other_turn : (u : Unit) (us : List Unit) → named l s template q.template u ≡ false → Finds us → Finds (u ∷ us)
    unfolding advance_of first_that is_that_template value_inside
    other_turn u us e more = rw e more

    by_name : (u : Unit) (us : List Unit) → Finds us → (named l s template q.template u ≡ true → u.id ≡ template → Finds (u ∷ us)) →
        Finds (u ∷ us)
    unfolding reads
    by_name u us more found = go (named l s template q.template u) refl
      where
        go : (x : Bool) → named l s template q.template u ≡ x → Finds (u ∷ us)
        go true e = found e (eqb-true u.id template (both (eqb u.id template) _ e).0)
        go false e = other_turn u us e more

    -- From the units behind those before, the last one first.
    finds : (before us : List Unit) (a b : ℕ) → all ≡ reverse_aux before us → Before a before → Rising a b us → Keyed us → Finds us
    unfolding first_that value_inside
    finds before [] a b whole earlier r keyed = refl
    finds before (u ∷ []) a b whole earlier r keyed = by_name u [] refl (λ e t. absurd (keyed.0 t))
    finds before (u ∷ k ∷ us) a b whole earlier r keyed =
        let early = before_on a u.start before r.0 earlier in
        let past : Before (suc u.start) (u ∷ before) =
        (omega arith, before_on u.start (suc u.start) before (omega arith) early) in
        let past-both : Before (suc k.start) (k ∷ u ∷ before) =
        (omega arith, before_on (suc u.start) (suc k.start) (u ∷ before) (omega (arith, r.1.0)) past) in
        by_name u (k ∷ us) (finds (u ∷ before) (k ∷ us) (suc u.start) b whole past r.1 keyed.1)
        (λ e t.
        named_turn before u k us b whole early (omega arith, r.1) (keyed.0 t).0 (keyed.0 t).1 e
        (finds (k ∷ u ∷ before) us (suc k.start) b whole past-both r.1.1 keyed.1.1))

  -- Over a whole list.
  pub pass_finds : (us : List Unit) (b : ℕ) → Rising 0 b us → Keyed us →
      outcome_of (foldl (advance_of l s q) Seeking us) ≡ value_inside l s q us (first_that (is_that_template l s q us) us)
  pass_finds us b r keyed = finds us [] us 0 b refl (record {}) r keyed
