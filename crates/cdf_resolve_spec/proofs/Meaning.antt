-- Which template a unit means, by the templates that come before it.
use Rattle.std.proofs.Common.{ℕ, suc, ◌≤◌, ◌<◌, ◌≡◌, refl, ◌∙◌, Bool, true, false, cond, ◌&&◌, List, [], ◌∷◌, ◌++◌, inl, arith, lt-ltb, le-ltb, eqb}
use mathlib.Core.Option.{Option, none, some}
use Rattle.cdf_unit_table.specs.Ids.{template, temporary_key}
use Rattle.cdf_unit_prefix.specs.Layout.{Layout}
use Rattle.cdf_unit_list.specs.Units.{listing}
use Rattle.cdf_unit_list.specs.Ranks.{ranked_units, ranked, standing}
use Rattle.cdf_unit_list.specs.declared.Unit.{Unit}
use Rattle.cdf_unit_list.specs.declared.Ranked.{Ranked}
use Rattle.cdf_lookup_spec.specs.Find.{Query, name_of, key_of, same_bytes, reads, named, is_that_key, passes, is_that_template}
use Rattle.cdf_lookup_spec.proofs.Ordered.{Rising}
use Rattle.cdf_resolve_spec.specs.Resolve.{key_in, is_temporary, has_temporary, key_bytes, meaning, is_earlier, rank_that, meant_by}
use Rattle.cdf_resolve_spec.specs.Pass.{number_of, alike_at, alike, held_for}
use Rattle.cdf_resolve_spec.proofs.Pairing.{Numbered}

-- The units alone are those of the unit list.
abbrev pub units : List Ranked → List Unit
units [] = []
units (r ∷ rs) = r.unit ∷ units rs

units_ranked : (us vs : List Unit) → units (ranked us vs) ≡ vs
unfolding ranked standing
units_ranked us [] = refl
units_ranked us (v ∷ vs) = rw (units_ranked (v ∷ us) vs)

pub units_are : (l : Layout) (s : List ℕ) → units (ranked_units l s) ≡ (listing l s).units
unfolding ranked_units
units_are l s = units_ranked [] (listing l s).units

-- The same four tests, otherwise paired.
shuffle : (x y m n : Bool) → ((x && n) && (y && m)) ≡ ((x && y) && (m && n))
shuffle false y m n = refl
shuffle true false m true = refl
shuffle true false m false = refl
shuffle true true true true = refl
shuffle true true true false = refl
shuffle true true false true = refl
shuffle true true false false = refl

and_none : (x n m : Bool) → ((x && n) && false) ≡ ((x && false) && m)
and_none false n m = refl
and_none true true m = refl
and_none true false m = refl

-- Where the first test passes the others are the same.
where_passed : (x m n : Bool) → (x ≡ true → m ≡ n) → (x && m) ≡ (x && n)
where_passed true m n e = e refl
where_passed false m n e = refl

module _ (l : Layout) (s : List ℕ) (all : List Unit) where
  that_is : (q : Query) (t : Unit) →
      is_that_template l s q all t ≡ (named l s template q.template t && passes (is_that_key l s q.key_id q.key) (key_in all t))
  unfolding is_that_template key_in
  that_is q t = refl

  temporary : (id : ℕ) (t : Unit) → has_temporary all id t ≡ (eqb t.id id && passes is_temporary (key_in all t))
  unfolding has_temporary
  temporary id t = refl

  -- A template has the name and the temporary key of u: it has one, and both are alike.
  asked_is : (u t : Unit) → Numbered l s all t →
      is_that_template l s (meaning l s (number_of l s u) u) all t ≡ (has_temporary all template t && alike l s u t)
  unfolding reads passes alike_at
  asked_is u t w = rw (that_is (meaning l s (number_of l s u) u) t, temporary template t) (go (key_in all t) refl)
    where
      go : (o : Option Unit) → key_in all t ≡ o →
          (named l s template (name_of l s u) t && passes (is_that_key l s temporary_key (number_of l s u)) o)
          ≡ ((eqb t.id template && passes is_temporary o) && alike l s u t)
      go none e = and_none (eqb t.id template) (same_bytes (name_of l s t) (name_of l s u)) _
      go (some k) e =
          shuffle (eqb t.id template) (is_temporary k) (same_bytes (key_of l s k) (number_of l s u))
          (same_bytes (name_of l s t) (name_of l s u))
          ∙ where_passed (eqb t.id template && is_temporary k) _ _
          (λ x.
          let has : has_temporary all template t ≡ true = rw (temporary template t, e) x in
          let same : key_of l s k ≡ number_of l s t = rw e at (w template (inl refl) has) in
          rw same)

  module _ (u : Unit) (number : key_bytes l s (key_in all u) ≡ number_of l s u) where
    -- An earlier template, and one that is not.
    earlier_is : (t : Unit) → Numbered l s all t → t.start < u.start →
        is_earlier l s all u t ≡ (has_temporary all template t && alike l s u t)
    unfolding is_earlier
    earlier_is t w h = rw (number, lt-ltb t.start u.start h, asked_is u t w)

    later_is : (t : Unit) → u.start ≤ t.start → is_earlier l s all u t ≡ false
    unfolding is_earlier
    later_is t h = rw (le-ltb t.start u.start h)

    none_later : (a b : ℕ) (rs : List Ranked) → u.start ≤ a → Rising a b (units rs) → rank_that (is_earlier l s all u) rs ≡ none
    unfolding rank_that
    none_later a b [] h r = refl
    none_later a b (t ∷ rs) h r =
        rw (later_is t.unit (omega (arith, r.0))) (none_later (suc t.unit.start) b rs (omega (arith, r.0)) r.1)

  -- Those before a position, each with its number.
  abbrev pub Done : ℕ → List Ranked → Type 0
  Done x [] = record {}
  Done x (r ∷ rs) = (r.unit.start < x) × Numbered l s all r.unit × Done x rs

  pub done_on : (x y : ℕ) (rs : List Ranked) → x ≤ y → Done x rs → Done y rs
  done_on x y [] h d = record {}
  done_on x y (r ∷ rs) h d = (omega (arith, d.0), d.1, done_on x y rs h d.2)

  pub done_more : (x : ℕ) (rs : List Ranked) (r : Ranked) → Done x rs → r.unit.start < x → Numbered l s all r.unit →
      Done x (rs ++ (r ∷ []))
  done_more x [] r d h w = (h, w, record {})
  done_more x (t ∷ rs) r d h w = (d.0, d.1, done_more x rs r d.2 h w)

  -- The templates with temporary keys among them.
  abbrev pub held : List Ranked → List Ranked
  held [] = []
  held (r ∷ rs) = cond (has_temporary all template r.unit) (r ∷ held rs) (held rs)

  pub held_more : (rs : List Ranked) (r : Ranked) →
      held (rs ++ (r ∷ [])) ≡ cond (has_temporary all template r.unit) (held rs ++ (r ∷ [])) (held rs)
  held_more [] r = refl
  held_more (t ∷ rs) r = rw (held_more rs r) (go (has_temporary all template t.unit) (has_temporary all template r.unit))
    where
      go : (x y : Bool) → cond x (t ∷ cond y (held rs ++ (r ∷ [])) (held rs)) (cond y (held rs ++ (r ∷ [])) (held rs))
          ≡ cond y (cond x (t ∷ held rs) (held rs) ++ (r ∷ [])) (cond x (t ∷ held rs) (held rs))
      go true true = refl
      go true false = refl
      go false true = refl
      go false false = refl

  rank_held : (u : Unit) → key_bytes l s (key_in all u) ≡ number_of l s u → (rs : List Ranked) → Done u.start rs →
      rank_that (is_earlier l s all u) rs ≡ rank_that (alike l s u) (held rs)
  unfolding rank_that
  rank_held u number [] d = refl
  rank_held u number (t ∷ rs) d =
      rw (earlier_is u number t.unit d.1 d.0, rank_held u number rs d.2) (go (has_temporary all template t.unit))
    where
      go : (x : Bool) → cond (x && alike l s u t.unit) (some t.rank) (rank_that (alike l s u) (held rs))
          ≡ rank_that (alike l s u) (cond x (t ∷ held rs) (held rs))
      go true = refl
      go false = refl

rank_front : (test : Unit → Bool) (rs qs : List Ranked) → rank_that test qs ≡ none → rank_that test (rs ++ qs) ≡ rank_that test rs
unfolding rank_that
rank_front test [] qs e = e
rank_front test (r ∷ rs) qs e = rw (rank_front test rs qs e)

-- Of all units, those before u and those from it on.
pub meant_held : (l : Layout) (s : List ℕ) (done rs : List Ranked) (u : Unit) (b : ℕ) → ranked_units l s ≡ done ++ rs →
    key_bytes l s (key_in (listing l s).units u) ≡ number_of l s u → Done l s (listing l s).units u.start done →
    Rising u.start b (units rs) → meant_by l s u ≡ held_for l s (held l s (listing l s).units done) u
unfolding meant_by held_for
meant_held l s done rs u b whole number d r =
    let all = (listing l s).units in
    rw (whole, rank_front (is_earlier l s all u) done rs (none_later l s all u number u.start b rs (omega arith) r)) (rank_held l s all u number done d)
