-- One pass over the units of an accepted stream meets the templates and the entity keys with temporary keys, one after the other.
use Rattle.std.proofs.Common.{ℕ, suc, ◌+◌, ◌≤◌, ◌<◌, ◌≡◌, refl, ap, ◌∙◌, Bool, true, false, cond, ◌&&◌, List, [], ◌∷◌, ◌++◌, inl, inr, arith}
use Rattle.std.proofs.Common.{eqb-true, lt-ltb, ltb-true, eqb, ltb, length, length-append}
use Rattle.std.proofs.lemmas.Bool.{eqb-false}
use mathlib.Core.List.{foldl}
use mathlib.Core.Option.{Option, none, some}
use Rattle.cdf_unit_table.specs.Ids.{template, entity_key}
use Rattle.cdf_unit_table.proofs.Bools.{of_cond}
use Rattle.cdf_unit_prefix.specs.Layout.{Layout}
use Rattle.cdf_unit_list.specs.Units.{listing}
use Rattle.cdf_unit_list.specs.declared.Unit.{Unit}
use Rattle.cdf_unit_list.specs.declared.Ranked.{Ranked}
use Rattle.cdf_resolve_spec.specs.Resolve.{most_templates, is_temporary, is_there, unstored, asks, count_that}
use Rattle.cdf_resolve_spec.specs.Pass.{Pass, doubled_at, lacking_at, held_for, add_of, tell_of, met_of, walk_at, step_of}
use Rattle.cdf_resolve_spec.specs.declared.Worst.{Worst}
use Rattle.cdf_resolve_spec.specs.declared.Worst.TheVariants.{Crowded}
use Rattle.cdf_resolve_spec.proofs.Leading.{Owner}
use Rattle.cdf_resolve_spec.proofs.Pairing.{Pair, Pairs, temporary_is, without}
use Rattle.cdf_resolve_spec.proofs.Meaning.{units}

-- A test first or last.
either_way : (x y t : Bool) (a b p : Pass) → cond t (cond x a (cond y b p)) p ≡ cond (x && t) a (cond (y && t) b p)
either_way true y true a b p = refl
either_way true true false a b p = refl
either_way true false false a b p = refl
either_way false true true a b p = refl
either_way false false true a b p = refl
either_way false true false a b p = refl
either_way false false false a b p = refl

no_matter : (t : Bool) (p : Pass) → cond t p p ≡ p
no_matter true p = refl
no_matter false p = refl

module _ (l : Layout) (s : List ℕ) where
  abbrev all : List Unit
  all = (listing l s).units

  -- A unit, by what the definition says of it.
  abbrev pub meet_of : Pass → Ranked → Pass
  meet_of p r =
      cond (unstored l s r.unit) (add_of l s p r) (cond (asks l s r.unit) (tell_of p r (held_for l s p.seen r.unit)) p)

  -- So it is by the unit behind it.
  pair_turn : (p : Pass) (o : Ranked) (k : Unit) → (Owner o.unit.id → Pair l all o.unit k) →
      cond (is_temporary k) (met_of l s p o) p ≡ meet_of p o
  unfolding met_of
  pair_turn p o k w = go (eqb o.unit.id template) (eqb o.unit.id entity_key) refl refl
    where
      paired : Owner o.unit.id → cond (is_temporary k) (met_of l s p o) p ≡ meet_of p o
      paired x =
          rw (temporary_is l s all o.unit k (w x) template, temporary_is l s all o.unit k (w x) entity_key)
          (either_way (eqb o.unit.id template) (eqb o.unit.id entity_key) (is_temporary k) _ _ p)

      go : (x y : Bool) → eqb o.unit.id template ≡ x → eqb o.unit.id entity_key ≡ y →
          cond (is_temporary k) (met_of l s p o) p ≡ meet_of p o
      go true y e f = paired (inl (eqb-true o.unit.id template e))
      go false true e f = paired (inr (eqb-true o.unit.id entity_key f))
      go false false e f =
          let other : Owner o.unit.id → ⊥ = λ x. neither x in
          rw (without l s all o.unit template other (inl refl), without l s all o.unit entity_key other (inr refl), e, f) (no_matter (is_temporary k) p)
        where
          neither : Owner o.unit.id → ⊥
          neither (inl x) = eqb-false o.unit.id template e x
          neither (inr x) = eqb-false o.unit.id entity_key f x

  -- The pass is one unit behind.
  pub step_fold : (o : Ranked) (rs : List Ranked) (p : Pass) → Pairs l all (units (o ∷ rs)) →
      (foldl (step_of l s) (walk_at o p) rs).pass ≡ foldl meet_of p (o ∷ rs)
  unfolding step_of
  step_fold o [] p w = rw (without l s all o.unit template w (inl refl), without l s all o.unit entity_key w (inr refl))
  step_fold o (k ∷ rs) p w =
      step_fold k rs (cond (is_temporary k.unit) (met_of l s p o) p) w.1
      ∙ ap (λ (q : Pass). foldl meet_of (meet_of q k) rs) (pair_turn p o k.unit w.0)

  -- What is met once there is no room is told, whatever comes.
  add_crowded : (p : Pass) (o : Ranked) → p.worst ≡ Crowded → (add_of l s p o).worst ≡ Crowded
  unfolding add_of doubled_at
  add_crowded p o e =
      of_cond (λ (q : Pass). q.worst ≡ Crowded) (ltb (length p.seen) most_templates) _ _
      (λ x. rw e (of_cond (λ (v : Worst). v ≡ Crowded) (is_there (held_for l s p.seen o.unit)) _ _ (λ y. refl) (λ y. refl)))
      (λ x. refl)

  tell_crowded : (p : Pass) (o : Ranked) (m : Option ℕ) → p.worst ≡ Crowded → (tell_of p o m).worst ≡ Crowded
  unfolding tell_of lacking_at
  tell_crowded p o none e = rw e
  tell_crowded p o (some rank) e = e

  stays_crowded : (rs : List Ranked) (p : Pass) → p.worst ≡ Crowded → (foldl meet_of p rs).worst ≡ Crowded
  stays_crowded [] p e = e
  stays_crowded (r ∷ rs) p e =
      stays_crowded rs (meet_of p r)
      (of_cond (λ (q : Pass). q.worst ≡ Crowded) (unstored l s r.unit) _ _ (λ x. add_crowded p r e)
      (λ x. of_cond (λ (q : Pass). q.worst ≡ Crowded) (asks l s r.unit) _ _ (λ y. tell_crowded p r _ e) (λ y. e)))

  -- Telling holds no template.
  pub tell_seen : (p : Pass) (o : Ranked) (m : Option ℕ) → (tell_of p o m).seen ≡ p.seen
  unfolding tell_of
  tell_seen p o none = refl
  tell_seen p o (some rank) = refl

  -- With room a template is held.
  pub add_held : (p : Pass) (o : Ranked) → length p.seen < 256 →
      add_of l s p o
      ≡ record {
        seen = p.seen ++ (o ∷ []);
        ranks = p.ranks;
        worst = cond (is_there (held_for l s p.seen o.unit)) (doubled_at p.worst o.unit.start) p.worst;
      }
  unfolding add_of
  add_held p o h = rw (lt-ltb (length p.seen) 256 h)

  pub longer : (seen : List Ranked) (o : Ranked) → length (seen ++ (o ∷ [])) ≡ suc (length seen)
  longer seen o = let e = length-append seen (o ∷ []) in omega (arith, e)

  -- More templates than there is room for are met: so it is of these units, if it is of those behind the first.
  abbrev Many : List Ranked → Type 0
  Many rs =
      (p : Pass) → length p.seen ≤ 256 → 256 < length p.seen + count_that (unstored l s) (units rs) → (foldl meet_of p rs).worst ≡ Crowded

  many_turn : (r : Ranked) (rs : List Ranked) → Many rs → Many (r ∷ rs)
  unfolding count_that add_of
  many_turn r rs behind p few more = go (unstored l s r.unit) refl more
    where
      rest : (q : Pass) → q.seen ≡ p.seen → 256 < length p.seen + count_that (unstored l s) (units rs) → (foldl meet_of q rs).worst ≡ Crowded
      rest q e h = behind q (rw e few) (rw e h)

      room : (x : Bool) → ltb (length p.seen) 256 ≡ x →
          256 < length p.seen + suc (count_that (unstored l s) (units rs)) → (foldl meet_of (add_of l s p r) rs).worst ≡ Crowded
      room true x h =
          let less = ltb-true (length p.seen) 256 x in
          let more = ap (λ (q : Pass). q.seen) (add_held p r less) in
          let size : length (add_of l s p r).seen ≡ suc (length p.seen) = rw more (longer p.seen r) in
          behind (add_of l s p r) (omega (arith, size, less)) (omega (arith, size, h))
      room false x h = stays_crowded rs (add_of l s p r) (rw x)

      go : (x : Bool) → unstored l s r.unit ≡ x →
          256 < length p.seen + cond x (suc (count_that (unstored l s) (units rs))) (count_that (unstored l s) (units rs)) →
          (foldl meet_of (cond x (add_of l s p r) (cond (asks l s r.unit) (tell_of p r (held_for l s p.seen r.unit)) p)) rs).worst ≡ Crowded
      go true e h = room (ltb (length p.seen) 256) refl h
      go false e h =
          of_cond (λ (q : Pass). (foldl meet_of q rs).worst ≡ Crowded) (asks l s r.unit) _ _
          (λ y. rest _ (tell_seen p r (held_for l s p.seen r.unit)) h) (λ y. rest p refl h)

  pub many : (rs : List Ranked) → Many rs
  unfolding count_that
  many [] p few more = absurd (omega arith)
  many (r ∷ rs) p few more = many_turn r rs (many rs) p few more
