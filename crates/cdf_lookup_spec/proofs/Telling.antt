-- What the tests of the definition tell, as facts.
use Rattle.std.proofs.Common.{ℕ, ◌≡◌, refl, sym, ap, ◌∙◌, Bool, true, false, cond, ◌&&◌, List, [], ◌∷◌, ◌⊎◌, inl, inr, eqb-true, eq-eqb, lt-ltb}
use Rattle.std.proofs.Common.{ltb-true, eqb, ltb}
use Rattle.std.proofs.lemmas.Bool.{false≢true}
use mathlib.Core.Option.{Option, none, some}
use Rattle.std.specs.Prelude.{Some}
use Rattle.cdf_unit_table.specs.Ids.{template, temporary_key, template_key, field}
use Rattle.cdf_unit_table.proofs.Bools.{both, either, clash}
use Rattle.cdf_unit_prefix.specs.Layout.{Layout}
use Rattle.cdf_unit_list.specs.Units.{listing}
use Rattle.cdf_unit_list.specs.declared.Unit.{Unit}
use Rattle.cdf_lookup_spec.specs.Find.{Query, text_to, key_of, same_bytes, reads, named, is_key, is_that_key, inside, first_that, passes, is_that_template}
use Rattle.cdf_lookup_spec.specs.declared.Span.{Span}
use Rattle.cdf_lookup_spec.specs.Chosen.{First, here, later, None, Within, HasName, KeyIn, FieldIn, Asked}

-- Two values that are the same begin and end alike.
pub span_is : (v w : Span) → Some v ≡ Some w → (v.start ≡ w.start) × (v.end ≡ w.end)
span_is v w e =
    let same : v ≡ w = cc in
    (ap (λ (r : Span). r.start) same, ap (λ (r : Span). r.end) same)

pub bytes_same : (a b : List ℕ) → same_bytes a b ≡ true → a ≡ b
unfolding same_bytes
bytes_same [] [] e = refl
bytes_same [] (b ∷ bs) e = absurd (false≢true e)
bytes_same (a ∷ more) [] e = absurd (false≢true e)
bytes_same (a ∷ more) (b ∷ bs) e =
    let w = both (eqb a b) (same_bytes more bs) e in rw (eqb-true a b w.0, bytes_same more bs w.1)

pub same_bytes_lem : (a b : List ℕ) → a ≡ b → same_bytes a b ≡ true
unfolding same_bytes
same_bytes_lem a b e = rw e (go b)
  where
    go : (b : List ℕ) → same_bytes b b ≡ true
    go [] = refl
    go (b ∷ bs) = rw (eq-eqb b b refl) (go bs)

pub and_true : (a b : Bool) → a ≡ true → b ≡ true → (a && b) ≡ true
and_true a b e f = rw (e, f)

-- A test tells exactly this.
pub record Tells (test : Unit → Bool) (P : Unit → Type 0) : Type 0 where
  pub fact : (u : Unit) → test u ≡ true → P u
  pub pass : (u : Unit) → P u → test u ≡ true

module _ (test : Unit → Bool) (P : Unit → Type 0) (w : Tells test P) where
  fails : (u : Unit) → test u ≡ false → P u → ⊥
  fails u e p = false≢true (sym e ∙ w.pass u p)

  -- The first that passes is the first of which this holds.
  pub first_some : (us : List Unit) (u : Unit) → first_that test us ≡ some u → First P u us
  unfolding first_that
  first_some [] u e = clash cc
  first_some (v ∷ us) u e = go (test v) refl e (first_some us u)
    where
      go : (b : Bool) → test v ≡ b → cond b (some v) (first_that test us) ≡ some u → (first_that test us ≡ some u → First P u us) →
          First P u (v ∷ us)
      go true x e more = let same : v ≡ u = cc in rw (← same) (here (w.fact v x))
      go false x e more = later (fails v x) (more e)

  pub first_none : (us : List Unit) → first_that test us ≡ none → None P us
  unfolding first_that
  first_none [] e = record {}
  first_none (v ∷ us) e = go (test v) refl e (first_none us)
    where
      go : (b : Bool) → test v ≡ b → cond b (some v) (first_that test us) ≡ none → (first_that test us ≡ none → None P us) →
          None P (v ∷ us)
      go true x e more = clash cc
      go false x e more = (fails v x, more e)

  pub some_first : {u : Unit} {us : List Unit} → First P u us → first_that test us ≡ some u
  unfolding first_that
  some_first {u} (here p) = rw (w.pass u p)
  some_first {u} (later {v} {us} other f) = go (test v) refl (some_first f)
    where
      go : (b : Bool) → test v ≡ b → first_that test us ≡ some u → cond b (some v) (first_that test us) ≡ some u
      go true x e = absurd (other (w.fact v x))
      go false x e = e

-- Two tests of a unit tell both.
tells_both : (f g : Unit → Bool) (P Q : Unit → Type 0) → Tells f P → Tells g Q → Tells (λ u. f u && g u) (λ u. P u × Q u)
tells_both f g P Q v w = record {
  fact = λ u e. let x = both (f u) (g u) e in (v.fact u x.0, w.fact u x.1);
  pass = λ u p. and_true (f u) (g u) (v.pass u p.0) (w.pass u p.1);
}

in_tells : (t : Unit) → Tells (inside t) (Within t)
unfolding inside
in_tells t = record {
  fact = λ u e.
      let x = both (ltb t.start u.start) (ltb u.start t.end) e in
      (ltb-true t.start u.start x.0, ltb-true u.start t.end x.1);
  pass = λ u p. and_true _ _ (lt-ltb t.start u.start p.0) (lt-ltb u.start t.end p.1);
}

-- A key is of one of the two ids.
abbrev OfKey : Unit → Type 0
OfKey k = (k.id ≡ temporary_key) ⊎ (k.id ≡ template_key)

pub key_is : (k : Unit) → OfKey k → is_key k ≡ true
unfolding is_key
key_is k (inl e) = rw e
key_is k (inr e) = rw e

pub key_fact : (k : Unit) → is_key k ≡ true → OfKey k
unfolding is_key
key_fact k e = go (either (eqb k.id temporary_key) (eqb k.id template_key) e)
  where
    go : (eqb k.id temporary_key ≡ true) ⊎ (eqb k.id template_key ≡ true) → OfKey k
    go (inl x) = inl (eqb-true k.id temporary_key x)
    go (inr x) = inr (eqb-true k.id template_key x)

pub key_tells : (t : Unit) → Tells (λ u. inside t u && is_key u) (KeyIn t)
key_tells t = tells_both (inside t) is_key (Within t) OfKey (in_tells t) (record { fact = key_fact; pass = key_is })

module _ (l : Layout) (s : List ℕ) where
  reads_fact : (id : ℕ) (text : List ℕ) (u : Unit) (to : ℕ) → reads l s id text u to ≡ true → (u.id ≡ id) × (text_to l s u to ≡ text)
  unfolding reads
  reads_fact id text u to e =
      let x = both (eqb u.id id) (same_bytes (text_to l s u to) text) e in
      (eqb-true u.id id x.0, bytes_same (text_to l s u to) text x.1)

  reads_test : (id : ℕ) (text : List ℕ) (u : Unit) (to : ℕ) → (u.id ≡ id) × (text_to l s u to ≡ text) → reads l s id text u to ≡ true
  unfolding reads
  reads_test id text u to p = and_true _ _ (eq-eqb u.id id p.0) (same_bytes_lem (text_to l s u to) text p.1)

  name_tells : (id : ℕ) (name : List ℕ) → Tells (named l s id name) (HasName l s id name)
  name_tells id name = record { fact = λ u. reads_fact id name u u.own; pass = λ u. reads_test id name u u.own }

  module _ (q : Query) where
    pub field_tells : (t : Unit) → Tells (λ u. inside t u && named l s field q.field u) (FieldIn l s q t)
    field_tells t =
        tells_both (inside t) (named l s field q.field) (Within t) (HasName l s field q.field) (in_tells t) (name_tells field q.field)

    abbrev HasKey : Unit → Type 0
    HasKey t = (k : Unit) × First (KeyIn t) k (listing l s).units × (k.id ≡ q.key_id) × (key_of l s k ≡ q.key)

    abbrev key_test : Unit → Bool
    key_test t = passes (is_that_key l s q.key_id q.key) (first_that (λ u. inside t u && is_key u) (listing l s).units)

    has_key : (t : Unit) (o : Option Unit) → first_that (λ u. inside t u && is_key u) (listing l s).units ≡ o →
        passes (is_that_key l s q.key_id q.key) o ≡ true → HasKey t
    unfolding passes
    has_key t none e x = absurd (false≢true x)
    has_key t (some k) e x =
        let is = reads_fact q.key_id q.key k k.end x in
        (k, first_some (λ u. inside t u && is_key u) (KeyIn t) (key_tells t) (listing l s).units k e, is.0, is.1)

    key_test_lem : (t : Unit) → HasKey t → key_test t ≡ true
    unfolding passes
    key_test_lem t (k, f, id, bytes) =
        rw (some_first (λ u. inside t u && is_key u) (KeyIn t) (key_tells t) f) (reads_test q.key_id q.key k k.end (id, bytes))

    pub asked_tells : Tells (is_that_template l s q (listing l s).units) (Asked l s q)
    unfolding is_that_template
    asked_tells =
        tells_both (named l s template q.template) key_test (HasName l s template q.template) HasKey (name_tells template q.template)
        (record { fact = λ t e. has_key t _ refl e; pass = key_test_lem })
