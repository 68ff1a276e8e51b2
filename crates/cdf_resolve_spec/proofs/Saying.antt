-- What the tests of the definition tell, in the words of the claims.
use Rattle.std.proofs.Common.{ℕ, suc, ◌≡◌, refl, sym, ap, subst, ◌∙◌, Bool, true, false, not, cond, ◌&&◌, List, [], ◌∷◌, ◌⊎◌, inl, inr, eqb-true}
use Rattle.std.proofs.Common.{eq-eqb, ltb-true, lt-ltb, eqb, ltb}
use Rattle.std.proofs.lemmas.Bool.{false≢true, not-true}
use mathlib.Core.Option.{Option, none, some}
use Rattle.cdf_unit_table.specs.Ids.{template, temporary_key, entity_key}
use Rattle.cdf_unit_table.proofs.Bools.{both, clash}
use Rattle.cdf_unit_prefix.specs.Layout.{Layout}
use Rattle.cdf_unit_list.specs.Units.{listing}
use Rattle.cdf_unit_list.specs.Ranks.{ranked_units}
use Rattle.cdf_unit_list.specs.declared.Unit.{Unit}
use Rattle.cdf_unit_list.specs.declared.Ranked.{Ranked}
use Rattle.cdf_lookup_spec.specs.Find.{is_key, inside, first_that, passes}
use Rattle.cdf_lookup_spec.specs.Chosen.{First, here, later, KeyIn}
use Rattle.cdf_lookup_spec.proofs.Telling.{Tells, and_true, first_some, some_first, key_tells, asked_tells}
use Rattle.cdf_resolve_spec.specs.Resolve.{key_in, is_temporary, has_temporary, key_bytes, meaning, is_earlier, rank_that, meant_by, is_there}
use Rattle.cdf_resolve_spec.specs.Resolve.{unstored, asks, is_doubled, is_lacking, count_that, with_rank, ranks_from}
use Rattle.cdf_resolve_spec.specs.Words.{In, Count, over, more, pass, HasTemporary, Unstored, Asks, Earlier, Doubled, Lacking, Ranks, end, meant, other}
use Rattle.cdf_resolve_spec.proofs.Meaning.{units, units_are}

-- A test that none passes fails of each.
pub none_passes : (test : Unit → Bool) (us : List Unit) (u : Unit) → first_that test us ≡ none → In u us → test u ≡ false
unfolding first_that
none_passes test [] u e i = absurd i
none_passes test (v ∷ us) u e i = go (test v) refl e i (none_passes test us u)
  where
    go : (b : Bool) → test v ≡ b → cond b (some v) (first_that test us) ≡ none → (u ≡ v) ⊎ In u us →
        (first_that test us ≡ none → In u us → test u ≡ false) → test u ≡ false
    go true x e i rest = clash cc
    go false x e (inl i) rest = rw i x
    go false x e (inr i) rest = rest e i

-- The first of which it holds is one of them.
pub first_in : {P : Unit → Type 0} {u : Unit} {us : List Unit} → First P u us → In u us × P u
first_in (here p) = (inl refl, p)
first_in (later n f) = let r = first_in f in (inr r.0, r.1)

module _ (test : Unit → Bool) (P : Unit → Type 0) (w : Tells test P) where
  fails : (u : Unit) → test u ≡ false → P u → ⊥
  fails u e p = false≢true (sym e ∙ w.pass u p)

  -- So many pass as it holds of,
  pub count_is : (us : List Unit) → Count P us (count_that test us)
  unfolding count_that
  count_is [] = over
  count_is (u ∷ us) = go (test u) refl (count_is us)
    where
      go : (b : Bool) → test u ≡ b → Count P us (count_that test us) → Count P (u ∷ us) (cond b (suc (count_that test us)) (count_that test us))
      go true e c = more (w.fact u e) c
      go false e c = pass (fails u e) c

  pub is_count : {us : List Unit} {n : ℕ} → Count P us n → count_that test us ≡ n
  unfolding count_that
  is_count over = refl
  is_count (more {u} p c) = rw (w.pass u p, is_count c)
  is_count (pass {u} {us} {n} p c) = go (test u) refl (is_count c)
    where
      go : (b : Bool) → test u ≡ b → count_that test us ≡ n → cond b (suc (count_that test us)) (count_that test us) ≡ n
      go true e x = absurd (p (w.fact u e))
      go false e x = x

  -- The rank of the first that passes is one's of which it holds; where there is none it holds of none.
  pub rank_some : (rs : List Ranked) (rank : ℕ) → rank_that test rs ≡ some rank → (r : Ranked) × In r rs × P r.unit × (r.rank ≡ rank)
  unfolding rank_that
  rank_some [] rank e = clash cc
  rank_some (r ∷ rs) rank e = go (test r.unit) refl e (rank_some rs rank)
    where
      go : (b : Bool) → test r.unit ≡ b → cond b (some r.rank) (rank_that test rs) ≡ some rank →
          (rank_that test rs ≡ some rank → (q : Ranked) × In q rs × P q.unit × (q.rank ≡ rank)) →
          (q : Ranked) × In q (r ∷ rs) × P q.unit × (q.rank ≡ rank)
      go true x e rest = (r, inl refl, w.fact r.unit x, cc)
      go false x e rest = let q = rest e in (q.0, inr q.1, q.2, q.3)

  pub rank_there : (rs : List Ranked) (u : Unit) → In u (units rs) → P u → is_there (rank_that test rs) ≡ true
  unfolding rank_that is_there
  rank_there [] u i p = absurd i
  rank_there (r ∷ rs) u (inl e) p = rw (w.pass r.unit (subst P e p))
  rank_there (r ∷ rs) u (inr i) p = go (test r.unit) (rank_there rs u i p)
    where
      go : (b : Bool) → is_there (rank_that test rs) ≡ true → is_there (cond b (some r.rank) (rank_that test rs)) ≡ true
      go true x = refl
      go false x = x

pub in_units : (rs : List Ranked) (r : Ranked) → In r rs → In r.unit (units rs)
in_units [] r i = absurd i
in_units (q ∷ rs) r (inl e) = inl (ap (λ (x : Ranked). x.unit) e)
in_units (q ∷ rs) r (inr i) = inr (in_units rs r i)

module _ (l : Layout) (s : List ℕ) where
  abbrev all : List Unit
  all = (listing l s).units

  -- A unit of an id with a temporary key.
  has_fact : (id : ℕ) (u : Unit) → has_temporary all id u ≡ true → HasTemporary l s id (key_bytes l s (key_in all u)) u
  unfolding has_temporary key_in passes
  has_fact id u e = let x = both (eqb u.id id) _ e in (eqb-true u.id id x.0, go (key_in all u) refl x.1)
    where
      go : (o : Option Unit) → key_in all u ≡ o → passes is_temporary o ≡ true →
          (k : Unit) × First (KeyIn u) k all × (k.id ≡ temporary_key) × (key_bytes l s (some k) ≡ key_bytes l s (key_in all u))
      go none x y = absurd (false≢true y)
      go (some k) x y =
          (k, first_some (λ v. inside u v && is_key v) (KeyIn u) (key_tells u) all k x, eqb-true k.id temporary_key y, sym (ap (key_bytes l s) x))

  has_test : (id : ℕ) (key : List ℕ) (u : Unit) → HasTemporary l s id key u → (has_temporary all id u ≡ true) × (key_bytes l s (key_in all u) ≡ key)
  unfolding has_temporary key_in passes
  has_test id key u (kind, (k, f, temporary, bytes)) =
      let e : key_in all u ≡ some k = some_first (λ v. inside u v && is_key v) (KeyIn u) (key_tells u) f in
      (and_true _ _ (eq-eqb u.id id kind) (ap (passes is_temporary) e ∙ eq-eqb k.id temporary_key temporary), ap (key_bytes l s) e ∙ bytes)

  temporary_tells : (id : ℕ) → Tells (has_temporary all id) (λ u. (key : List ℕ) × HasTemporary l s id key u)
  temporary_tells id = record { fact = λ u e. (_, has_fact id u e); pass = λ u h. (has_test id h.0 u h.1).0 }

  pub unstored_tells : Tells (unstored l s) (Unstored l s)
  unstored_tells = temporary_tells template

  pub asks_tells : Tells (asks l s) (Asks l s)
  asks_tells = temporary_tells entity_key

  -- An earlier template with its name and its temporary key.
  abbrev keyed : Unit → List ℕ
  keyed u = key_bytes l s (key_in all u)

  earlier_tells : (u : Unit) → Tells (is_earlier l s all u) (Earlier l s u (keyed u))
  unfolding is_earlier
  earlier_tells u = record {
    fact = λ t e.
        let x = both (ltb t.start u.start) _ e in
        (ltb-true t.start u.start x.0, (asked_tells l s (meaning l s (keyed u) u)).fact t x.1);
    pass = λ t p. and_true _ _ (lt-ltb t.start u.start p.0) ((asked_tells l s (meaning l s (keyed u) u)).pass t p.1);
  }

  -- With the rank of the one that is meant, it is one of the listed; and if one is, it is there.
  pub meant_some : (u : Unit) (rank : ℕ) → meant_by l s u ≡ some rank →
      (r : Ranked) × In r (ranked_units l s) × Earlier l s u (keyed u) r.unit × (r.rank ≡ rank)
  unfolding meant_by
  meant_some u rank e = rank_some (is_earlier l s all u) (Earlier l s u (keyed u)) (earlier_tells u) (ranked_units l s) rank e

  meant_there : (u t : Unit) → In t all → Earlier l s u (keyed u) t → is_there (meant_by l s u) ≡ true
  unfolding meant_by
  meant_there u t i p =
      rank_there (is_earlier l s all u) (Earlier l s u (keyed u)) (earlier_tells u) (ranked_units l s) t (subst (In t) (sym (units_are l s)) i) p

  pub one_meant : (u : Unit) → is_there (meant_by l s u) ≡ true → (t : Unit) × In t all × Earlier l s u (keyed u) t
  unfolding is_there
  one_meant u e = go (meant_by l s u) refl e
    where
      go : (m : Option ℕ) → meant_by l s u ≡ m → is_there m ≡ true → (t : Unit) × In t all × Earlier l s u (keyed u) t
      go none x y = absurd (false≢true y)
      go (some rank) x y =
          let r = meant_some u rank x in
          (r.0.unit, subst (In r.0.unit) (units_are l s) (in_units (ranked_units l s) r.0 r.1), r.2)

  pub doubled_tells : Tells (is_doubled l s) (Doubled l s)
  unfolding is_doubled
  doubled_tells = record {
    fact = λ t e. let x = both (unstored l s t) (is_there (meant_by l s t)) e in (keyed t, has_fact template t x.0, one_meant t x.1);
    pass = λ t h.
        let x = has_test template h.0 t h.1 in
        and_true _ _ x.0 (meant_there t h.2.0 h.2.1 (subst (λ key. Earlier l s t key h.2.0) (sym x.1) h.2.2));
  }

  pub lacking_tells : Tells (is_lacking l s) (Lacking l s)
  unfolding is_lacking
  lacking_tells = record {
    fact = λ u e.
        let x = both (asks l s u) (not (is_there (meant_by l s u))) e in
        (keyed u, has_fact entity_key u x.0, λ t i p. false≢true (sym (not-true (is_there (meant_by l s u)) x.1) ∙ meant_there u t i p));
    pass = λ u h.
        let x = has_test entity_key h.0 u h.1 in
        and_true _ _ x.0 (lacks u h.0 x.1 h.2 (is_there (meant_by l s u)) refl);
  }
    where
      lacks : (u : Unit) (key : List ℕ) → keyed u ≡ key → ((t : Unit) → In t all → Earlier l s u key t → ⊥) → (b : Bool) →
          is_there (meant_by l s u) ≡ b → not b ≡ true
      lacks u key e nobody true x = let m = one_meant u x in absurd (nobody m.0 m.1 (subst (λ k. Earlier l s u k m.0) e m.2))
      lacks u key e nobody false x = refl

  -- An entity key that asks and lacks none has its template, by whatever bytes are told of its key.
  pub has_one : (u : Unit) (key : List ℕ) → HasTemporary l s entity_key key u → is_lacking l s u ≡ false →
      (t : Unit) × In t all × Earlier l s u key t
  unfolding is_lacking
  has_one u key h e =
      let x = has_test entity_key key u h in
      let m = one_meant u (go (is_there (meant_by l s u)) refl (sym (ap (λ b. b && not (is_there (meant_by l s u))) x.0) ∙ e)) in
      (m.0, m.1, subst (λ k. Earlier l s u k m.0) x.1 m.2)
    where
      go : (b : Bool) → is_there (meant_by l s u) ≡ b → not (is_there (meant_by l s u)) ≡ false → is_there (meant_by l s u) ≡ true
      go true x y = x
      go false x y = absurd (false≢true (sym y ∙ ap not x))

  -- Where none lacks its template, each has its rank.
  pub ranks_told : (us : List Unit) → first_that (is_lacking l s) us ≡ none → Ranks l s us (ranks_from l s us)
  unfolding first_that ranks_from is_there
  ranks_told [] e = end
  ranks_told (u ∷ us) e = go (is_lacking l s u) refl e (ranks_told us)
    where
      key : asks l s u ≡ true → (m : Option ℕ) → meant_by l s u ≡ m → is_lacking l s u ≡ false → Ranks l s us (ranks_from l s us) →
          Ranks l s (u ∷ us) (with_rank m (ranks_from l s us))
      key a none x n rest =
          let t = has_one u (keyed u) (has_fact entity_key u a) n in
          absurd (false≢true (sym (ap is_there x) ∙ meant_there u t.0 t.1 t.2))
      key a (some rank) x n rest =
          let r = meant_some u rank x in
          subst (λ k. Ranks l s (u ∷ us) (k ∷ ranks_from l s us)) r.3 (meant (keyed u) r.0 (has_fact entity_key u a) r.1 r.2 rest)

      asked : (b : Bool) → asks l s u ≡ b → is_lacking l s u ≡ false → Ranks l s us (ranks_from l s us) →
          Ranks l s (u ∷ us) (cond b (with_rank (meant_by l s u) (ranks_from l s us)) (ranks_from l s us))
      asked true a n rest = key a (meant_by l s u) refl n rest
      asked false a n rest = other (λ h. false≢true (sym a ∙ asks_tells.pass u h)) rest

      go : (b : Bool) → is_lacking l s u ≡ b → cond b (some u) (first_that (is_lacking l s) us) ≡ none →
          (first_that (is_lacking l s) us ≡ none → Ranks l s us (ranks_from l s us)) →
          Ranks l s (u ∷ us) (cond (asks l s u) (with_rank (meant_by l s u) (ranks_from l s us)) (ranks_from l s us))
      go true x e rest = clash cc
      go false x e rest = asked (asks l s u) refl x (rest e)
