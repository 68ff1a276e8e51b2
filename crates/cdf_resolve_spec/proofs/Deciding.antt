-- What a pass over the units of an accepted stream has met is what the definition says.
use Rattle.std.proofs.Common.{ℕ, suc, ◌+◌, ◌≤◌, ◌<◌, ◌≡◌, refl, sym, ap, subst, ◌∙◌, Bool, true, false, not, cond, ◌&&◌, List, [], ◌∷◌, ◌++◌}
use Rattle.std.proofs.Common.{append-nil, ◌⊎◌, inl, inr, arith, eqb-true, ne_eqb, eq-eqb, ltb-true, ltb-false, eqb, ltb, length}
use mathlib.Core.List.{foldl}
use mathlib.Core.Option.{Option, none, some}
use lib.Seq.{append_snoc}
use Rattle.cdf_unit_table.specs.Ids.{er_group, template, temporary_key, entity_key}
use Rattle.cdf_unit_table.proofs.Bools.{both, clash}
use Rattle.cdf_unit_prefix.specs.Layout.{Layout}
use Rattle.cdf_unit_list.specs.Units.{listing}
use Rattle.cdf_unit_list.specs.Check.{check_of}
use Rattle.cdf_unit_list.specs.Ranks.{ranked_units}
use Rattle.cdf_unit_list.specs.declared.Unit.{Unit}
use Rattle.cdf_unit_list.specs.declared.Ranked.{Ranked}
use Rattle.cdf_lookup_spec.specs.Find.{first_that, is_group}
use Rattle.cdf_lookup_spec.proofs.Ordered.{Rising}
use Rattle.cdf_resolve_spec.specs.Resolve.{has_temporary, meant_by, is_there, unstored, asks, is_doubled, is_lacking, count_that}
use Rattle.cdf_resolve_spec.specs.Resolve.{ranks_from, ranks_of, refusal, refused_at, counted, resolved_of}
use Rattle.cdf_resolve_spec.specs.Pass.{Pass, nothing_met, doubled_at, lacking_at, held_for, add_of, tell_of, Walk, walk_at, step_of, told_by}
use Rattle.cdf_resolve_spec.specs.declared.Worst.{Worst}
use Rattle.cdf_resolve_spec.specs.declared.Worst.TheVariants.{Fine, Lacking, Doubled, Crowded}
use Rattle.cdf_resolve_spec.proofs.Pairing.{Orderly, Pairs, Numbered, AllNumbered, all_numbered}
use Rattle.cdf_resolve_spec.proofs.Meaning.{units, units_are, Done, done_on, done_more, held, held_more, meant_held}
use Rattle.cdf_resolve_spec.proofs.Passing.{meet_of, step_fold, tell_seen, add_held, longer, many}

-- The gravest so far, with the first doubled template and the first entity key without one of those that come.
unfoldable pub graver : Worst → Option Unit → Option Unit → Worst
graver Fine none none = Fine
graver Fine none (some u) = Lacking u.start
graver Fine (some t) k = Doubled t.start
graver (Lacking x) none k = Lacking x
graver (Lacking x) (some t) k = Doubled t.start
graver (Doubled x) d k = Doubled x
graver Crowded d k = Crowded

one_doubled : (w : Worst) (t : Unit) (d k j : Option Unit) → graver (doubled_at w t.start) d k ≡ graver w (some t) j
unfolding graver doubled_at
one_doubled Fine t d k j = refl
one_doubled (Lacking x) t d k j = refl
one_doubled (Doubled x) t d k j = refl
one_doubled Crowded t d k j = refl

one_lacking : (w : Worst) (u : Unit) (d k : Option Unit) → graver (lacking_at w u.start) d k ≡ graver w d (some u)
unfolding graver lacking_at
one_lacking Fine u none k = refl
one_lacking Fine u (some t) k = refl
one_lacking (Lacking x) u none k = refl
one_lacking (Lacking x) u (some t) k = refl
one_lacking (Doubled x) u d k = refl
one_lacking Crowded u d k = refl

told_first : (d k : Option Unit) (count room : ℕ) →
    told_by (graver Fine d k) count room ≡ refused_at 19 d (refused_at 20 k (counted count room))
unfolding graver refused_at told_by
told_first none none count room = refl
told_first none (some u) count room = refl
told_first (some t) k count room = refl

module _ (l : Layout) (s : List ℕ) where
  abbrev all : List Unit
  all = (listing l s).units

  -- A template is no entity key.
  other_kind : (u : Unit) → unstored l s u ≡ true → asks l s u ≡ false
  unfolding has_temporary
  other_kind u e =
      let t = eqb-true u.id template (both (eqb u.id template) _ e).0 in
      rw (ne_eqb u.id entity_key (λ z. omega (arith, t, z)))

  -- What the definition asks of a unit, by the template that it means.
  module _ (u : Unit) (m : Option ℕ) (e : meant_by l s u ≡ m) where
    doubled_is : is_doubled l s u ≡ (unstored l s u && is_there m)
    unfolding is_doubled
    doubled_is = rw e

    lacking_is : is_lacking l s u ≡ (asks l s u && not (is_there m))
    unfolding is_lacking
    lacking_is = rw e

  not_asked : (u : Unit) → asks l s u ≡ false → is_lacking l s u ≡ false
  unfolding is_lacking
  not_asked u e = rw e

  not_unstored : (u : Unit) → unstored l s u ≡ false → is_doubled l s u ≡ false
  unfolding is_doubled
  not_unstored u e = rw e

  -- What has been met after these units.
  pub record Met (p : Pass) (rs : List Ranked) (r : Pass) : Type 0 where
    pub worst : r.worst ≡ graver p.worst (first_that (is_doubled l s) (units rs)) (first_that (is_lacking l s) (units rs))
    pub ranks : r.ranks ≡ p.ranks ++ ranks_from l s (units rs)

  module _ (p : Pass) (r : Ranked) (rs : List Ranked) (seen : List Ranked) (held-is : p.seen ≡ seen)
      (meant : (unstored l s r.unit ≡ true) ⊎ (asks l s r.unit ≡ true) → meant_by l s r.unit ≡ held_for l s seen r.unit) where
    -- A template.
    met_template : unstored l s r.unit ≡ true → (q : Pass) → Met (add_of l s p r) rs q → length p.seen < 256 → Met p (r ∷ rs) q
    unfolding first_that ranks_from
    met_template e q w room =
        let m = meant (inl e) in
        let no = other_kind r.unit e in
        let add = add_held l s p r room in
        go (is_there (held_for l s seen r.unit)) refl no (doubled_is r.unit _ m) (ap (λ (x : Pass). x.worst) add) (ap (λ (x : Pass). x.ranks) add)
      where
        go : (b : Bool) → is_there (held_for l s seen r.unit) ≡ b → asks l s r.unit ≡ false →
            is_doubled l s r.unit ≡ (unstored l s r.unit && is_there (held_for l s seen r.unit)) →
            (add_of l s p r).worst ≡ cond (is_there (held_for l s p.seen r.unit)) (doubled_at p.worst r.unit.start) p.worst →
            (add_of l s p r).ranks ≡ p.ranks → Met p (r ∷ rs) q
        go true x other d worst ranks =
            let two : is_doubled l s r.unit ≡ true = rw (d, e, x) in
            let is : (add_of l s p r).worst ≡ doubled_at p.worst r.unit.start = worst ∙ rw (held-is, x) in
            record {
              worst = w.worst ∙ rw (is, two, not_asked r.unit other) (one_doubled p.worst r.unit _ _ _);
              ranks = w.ranks ∙ rw (ranks, other);
            }
        go false x other d worst ranks =
            let one : is_doubled l s r.unit ≡ false = rw (d, e, x) in
            let is : (add_of l s p r).worst ≡ p.worst = worst ∙ rw (held-is, x) in
            record {
              worst = w.worst ∙ rw (is, one, not_asked r.unit other);
              ranks = w.ranks ∙ rw (ranks, other);
            }

    -- An entity key.
    met_key : unstored l s r.unit ≡ false → asks l s r.unit ≡ true → (q : Pass) →
        Met (tell_of p r (held_for l s p.seen r.unit)) rs q → Met p (r ∷ rs) q
    unfolding first_that ranks_from tell_of is_there
    met_key n e q w = go (held_for l s seen r.unit) refl (meant (inr e))
      where
        go : (m : Option ℕ) → held_for l s seen r.unit ≡ m → meant_by l s r.unit ≡ held_for l s seen r.unit → Met p (r ∷ rs) q
        go none x y =
            let now : held_for l s p.seen r.unit ≡ none = rw held-is x in
            let v : Met (tell_of p r none) rs q = rw now at w in
            let is : is_lacking l s r.unit ≡ true = rw (lacking_is r.unit none (y ∙ x), e) in
            record {
              worst = v.worst ∙ rw (not_unstored r.unit n, is) (one_lacking p.worst r.unit _ _);
              ranks = v.ranks ∙ rw (e, y, x);
            }
        go (some rank) x y =
            let now : held_for l s p.seen r.unit ≡ some rank = rw held-is x in
            let v : Met (tell_of p r (some rank)) rs q = rw now at w in
            let is : is_lacking l s r.unit ≡ false = rw (lacking_is r.unit (some rank) (y ∙ x), e) in
            record {
              worst = v.worst ∙ rw (not_unstored r.unit n, is);
              ranks = v.ranks ∙ rw (e, y, x) (append_snoc p.ranks rank (ranks_from l s (units rs)));
            }

    -- Any other.
    met_other : unstored l s r.unit ≡ false → asks l s r.unit ≡ false → (q : Pass) → Met p rs q → Met p (r ∷ rs) q
    unfolding first_that ranks_from
    met_other n e q w = record {
      worst = w.worst ∙ rw (not_unstored r.unit n, not_asked r.unit e);
      ranks = w.ranks ∙ rw e;
    }

  -- One unit, if it is so of those behind it.
  meets_turn : (done : List Ranked) (u : Ranked) (rs : List Ranked) (p : Pass) (b : ℕ) → ranked_units l s ≡ done ++ u ∷ rs →
      Done l s all u.unit.start done → Rising u.unit.start b (units (u ∷ rs)) → Numbered l s all u.unit → p.seen ≡ held l s all done →
      length p.seen + count_that (unstored l s) (units (u ∷ rs)) ≤ 256 →
      ((q : Pass) → q.seen ≡ held l s all (done ++ (u ∷ [])) → length q.seen + count_that (unstored l s) (units rs) ≤ 256 →
      Met q rs (foldl (meet_of l s) q rs)) → Met p (u ∷ rs) (foldl (meet_of l s) p (u ∷ rs))
  unfolding count_that
  meets_turn done u rs p b whole d r n seen few rest = go (unstored l s u.unit) refl (asks l s u.unit) refl few
    where
      meant : (unstored l s u.unit ≡ true) ⊎ (asks l s u.unit ≡ true) →
          meant_by l s u.unit ≡ held_for l s (held l s all done) u.unit
      meant (inl e) = meant_held l s done (u ∷ rs) u.unit b whole (n template (inl refl) e) d r
      meant (inr e) = meant_held l s done (u ∷ rs) u.unit b whole (n entity_key (inr refl) e) d r

      go : (x : Bool) → unstored l s u.unit ≡ x → (y : Bool) → asks l s u.unit ≡ y →
          length p.seen + cond x (suc (count_that (unstored l s) (units rs))) (count_that (unstored l s) (units rs)) ≤ 256 →
          Met p (u ∷ rs) (foldl (meet_of l s) (cond x (add_of l s p u) (cond y (tell_of p u (held_for l s p.seen u.unit)) p)) rs)
      go true e y f h =
          let room : length p.seen < 256 = omega arith in
          let more = ap (λ (q : Pass). q.seen) (add_held l s p u room) in
          let held-now : (add_of l s p u).seen ≡ held l s all (done ++ (u ∷ [])) = more ∙ rw (held_more l s all done u, e, seen) in
          let size : length (add_of l s p u).seen ≡ suc (length p.seen) = rw more (longer l s p.seen u) in
          met_template p u rs _ seen meant e _ (rest (add_of l s p u) held-now (omega (arith, size, h))) room
      go false e true f h =
          let same = tell_seen l s p u (held_for l s p.seen u.unit) in
          met_key p u rs _ seen meant e f _
          (rest (tell_of p u (held_for l s p.seen u.unit)) (same ∙ rw (held_more l s all done u, e, seen)) (rw same h))
      go false e false f h = met_other p u rs _ seen meant e f _ (rest p (rw (held_more l s all done u, e, seen)) h)

  -- All that come, if there is room for the templates among them.
  meets : (done rs : List Ranked) (p : Pass) (a b : ℕ) → ranked_units l s ≡ done ++ rs → Done l s all a done → Rising a b (units rs) →
      AllNumbered l s all (units rs) → p.seen ≡ held l s all done → length p.seen + count_that (unstored l s) (units rs) ≤ 256 →
      Met p rs (foldl (meet_of l s) p rs)
  unfolding first_that ranks_from graver
  meets done [] p a b whole d r n seen few = record { worst = last p.worst; ranks = sym (append-nil p.ranks) }
    where
      last : (w : Worst) → w ≡ graver w none none
      last Fine = refl
      last (Lacking x) = refl
      last (Doubled x) = refl
      last Crowded = refl
  meets done (u ∷ rs) p a b whole d r n seen few =
      let here = done_on l s all a u.unit.start done r.0 d in
      let next =
      done_more l s all (suc u.unit.start) done u
      (done_on l s all u.unit.start (suc u.unit.start) done (omega arith) here) (omega arith) n.0 in
      meets_turn done u rs p b whole here (omega arith, r.1) n.0 seen few
      (λ q e f.
      meets (done ++ (u ∷ [])) rs q (suc u.unit.start) b (whole ∙ sym (append_snoc done u rs)) next r.1 n.1 e f)

  -- The pass over the whole of an accepted stream, whatever unit it begins with: what it leaves, and what is answered by that.
  module _ (o : Orderly l s) where
    numbers : AllNumbered l s all (units (ranked_units l s))
    numbers = rw (units_are l s) (all_numbered l s all all o.pairs)

    abbrev pub met : Pass
    met = foldl (meet_of l s) nothing_met (ranked_units l s)

    counts : count_that (unstored l s) (units (ranked_units l s)) ≡ count_that (unstored l s) all
    counts = rw (units_are l s)

    -- It is the walk's, from whatever unit it begins: the root is no key.
    no_key : (first r : Ranked) → r.unit.id ≡ er_group → step_of l s (walk_at first nothing_met) r ≡ walk_at r nothing_met
    unfolding step_of
    no_key first r id = rw (ne_eqb r.unit.id temporary_key (λ z. omega (arith, id, z)))

    pub pass_is : (first : Ranked) → is_group all ≡ true → (foldl (step_of l s) (walk_at first nothing_met) (ranked_units l s)).pass ≡ met
    unfolding is_group
    pass_is first group = go (ranked_units l s) (units_are l s)
      where
        go : (rs : List Ranked) → units rs ≡ all → (foldl (step_of l s) (walk_at first nothing_met) rs).pass ≡ foldl (meet_of l s) nothing_met rs
        go [] e = refl
        go (r ∷ rs) e =
            let id = eqb-true r.unit.id er_group (ap is_group e ∙ group) in
            ap (λ (w : Walk). (foldl (step_of l s) w rs).pass) (no_key first r id)
            ∙ step_fold l s r rs nothing_met (subst (Pairs l all) (sym e) o.pairs)

    told_many : 256 < count_that (unstored l s) all → met.worst ≡ Crowded
    told_many h = many l s (ranked_units l s) nothing_met (omega arith) (omega (arith, counts, h))

    met_all : count_that (unstored l s) all ≤ 256 → Met nothing_met (ranked_units l s) met
    met_all h =
        meets [] (ranked_units l s) nothing_met 0 o.bound refl (record {}) (rw (units_are l s) o.rising) numbers refl
        (omega (arith, counts, h))

    pub told_is : (room : ℕ) → (check_of l s).number ≡ 0 → is_group all ≡ true → resolved_of l s room ≡ told_by met.worst (length met.ranks) room
    unfolding resolved_of ranks_of told_by
    told_is room accepted group = rw (eq-eqb (check_of l s).number 0 accepted, group) (go (ltb 256 (count_that (unstored l s) all)) refl)
      where
        go : (b : Bool) → ltb 256 (count_that (unstored l s) all) ≡ b →
            cond b (refusal 18 0)
            (refused_at 19 (first_that (is_doubled l s) all) (refused_at 20 (first_that (is_lacking l s) all) (counted (length (ranks_from l s all)) room)))
            ≡ told_by met.worst (length met.ranks) room
        go true e = rw (told_many (ltb-true 256 _ e))
        go false e =
            let w = met_all (ltb-false 256 _ e) in
            rw (w.worst, w.ranks, units_are l s) (sym (told_first _ _ _ room))

    -- With nothing that is refused the ranks are those of the definition.
    pub ranks_are : met.worst ≡ Fine → met.ranks ≡ ranks_of l s
    unfolding ranks_of
    ranks_are e = go (ltb 256 (count_that (unstored l s) all)) refl
      where
        go : (b : Bool) → ltb 256 (count_that (unstored l s) all) ≡ b → met.ranks ≡ ranks_from l s all
        go true x = let crowded = told_many (ltb-true 256 _ x) in clash cc
        go false x = let w = met_all (ltb-false 256 _ x) in w.ranks ∙ rw (units_are l s)
