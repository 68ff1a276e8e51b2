-- The answer, stage by stage.
use Rattle.std.proofs.Common.{ℕ, ◌≡◌, refl, sym, ap, ◌∙◌, Bool, true, false, not, cond, ◌&&◌, List, eq-eqb, ne_eqb, eqb}
use Rattle.std.specs.Prelude.{Ok, Err, Some, None}
use Rattle.cdf_refusal.proofs.Apart.{refuses}
use Rattle.cdf_unit_prefix.specs.Layout.{Layout, edition_of, layout_for}
use Rattle.cdf_unit_list.specs.Units.{listing}
use Rattle.cdf_unit_list.specs.Check.{check_of}
use Rattle.cdf_grammar.specs.Encoding.{Bytes}
use Rattle.cdf_grammar.proofs.Proved.{proved}
use Rattle.cdf_lookup_spec.specs.Find.{Query, value_in, Lookup, refusal, found, or_else, is_group, lookup_of}
use Rattle.cdf_lookup_spec.specs.Told.{answer_of}
use Rattle.cdf_lookup_spec.specs.declared.Span.{Span}
use Rattle.cdf_lookup_spec.proofs.Streams.{search_finds}
use Rattle.cdf_lookup_search.specs.Walking.{walked_of, Tells}
use Rattle.cdf_lookup_search.specs.declared.Broken.{Broken}
use Rattle.cdf_lookup_search.specs.declared.Walked.{Walked}

-- Two roots asked one after the other, or together.
roots : (f g : Bool) (x : Lookup) → cond (not f) (refusal 7 0) (cond (not g) (refusal 7 0) x) ≡ cond (f && g) x (refusal 7 0)
roots true true x = refl
roots true false x = refl
roots false g x = refl

-- What a walk over a stream tells: of one that is refused the check's refusal,
module _ (s : List ℕ) (q : Query) where
  module _ (f : Broken) (h : Tells (Err f) (walked_of (layout_for s) s q)) where
    refused : (check_of (layout_for s) s).number ≡ 0 → ⊥
    unfolding walked_of
    refused z = refuses f.fault.refusal (h.0 ∙ z)

    told_is : answer_of (Err f.fault) ≡ refusal (check_of (layout_for s) s).number (check_of (layout_for s) s).value
    unfolding walked_of
    told_is = rw (h.0, h.1, ne_eqb (check_of (layout_for s) s).number 0 refused)

  -- and in an accepted one it finds what the definition says.
  module _ (w : Walked) (h : Tells (Ok w) (walked_of (layout_for s) s q)) where
    accepted : (check_of (layout_for s) s).number ≡ 0
    unfolding walked_of
    accepted = h.0

    group_is : is_group (listing (layout_for s) s).units ≡ w.group
    unfolding walked_of
    group_is = sym h.1

    value_is : Bytes s → value_in (layout_for s) s q ≡ w.value
    unfolding walked_of
    value_is bytes =
        let tree = ((proved.streams (edition_of s)).exactly s bytes).0 h.0 in
        sym (search_finds (edition_of s) s q tree.0 tree.1) ∙ sym h.2

-- By a walk over each of two streams, in the order of the code: both checks, then the roots together, then the values.
module _ (s t : List ℕ) (q : Query) where
  abbrev l : Layout
  l = layout_for s

  abbrev m : Layout
  m = layout_for t

  abbrev values : Lookup
  values = or_else 1 (value_in l s q) (or_else 2 (value_in m t q) (refusal 15 0))

  decided : lookup_of l m s t q
      ≡ cond (not (eqb (check_of l s).number 0)) (refusal (check_of l s).number (check_of l s).value)
      (cond (not (eqb (check_of m t).number 0)) (refusal (check_of m t).number (check_of m t).value)
      (cond (is_group (listing l s).units && is_group (listing m t).units) values (refusal 7 0)))
  unfolding lookup_of
  decided =
      ap (λ (r : Lookup). cond (not (eqb (check_of l s).number 0)) (refusal (check_of l s).number (check_of l s).value)
      (cond (not (eqb (check_of m t).number 0)) (refusal (check_of m t).number (check_of m t).value) r))
      (roots (is_group (listing l s).units) (is_group (listing m t).units) values)

  pub by_first : (f : Broken) → Tells (Err f) (walked_of l s q) → answer_of (Err f.fault) ≡ lookup_of l m s t q
  by_first f h = told_is s q f h ∙ sym (decided ∙ rw (ne_eqb (check_of l s).number 0 (refused s q f h)))

  module _ (one : Walked) (a : Tells (Ok one) (walked_of l s q)) where
    pub by_second : (f : Broken) → Tells (Err f) (walked_of m t q) → answer_of (Err f.fault) ≡ lookup_of l m s t q
    by_second f h =
        told_is t q f h
        ∙ sym (decided ∙ rw (eq-eqb (check_of l s).number 0 (accepted s q one a), ne_eqb (check_of m t).number 0 (refused t q f h)))

    module _ (two : Walked) (b : Tells (Ok two) (walked_of m t q)) where
      past_checks : lookup_of l m s t q ≡ cond (one.group && two.group) values (refusal 7 0)
      past_checks =
          decided
          ∙ rw (
            eq-eqb (check_of l s).number 0 (accepted s q one a),
            eq-eqb (check_of m t).number 0 (accepted t q two b),
            group_is s q one a,
            group_is t q two b,
          )

      pub by_roots : (one.group && two.group) ≡ false → refusal 7 0 ≡ lookup_of l m s t q
      by_roots h = rw (past_checks, h)

      -- The answer by the two values.
      module _ (x : Bytes s) (y : Bytes t) (h : (one.group && two.group) ≡ true) where
        by_values : lookup_of l m s t q ≡ or_else 1 one.value (or_else 2 two.value (refusal 15 0))
        by_values = rw (past_checks, h, value_is s q one a x, value_is t q two b y)

        pub of_first : (v : Span) → one.value ≡ Some v → found 1 v.start v.end ≡ lookup_of l m s t q
        unfolding or_else
        of_first v e = rw (by_values, e)

        pub of_second : (w : Span) → one.value ≡ None → two.value ≡ Some w → found 2 w.start w.end ≡ lookup_of l m s t q
        unfolding or_else
        of_second w e f = rw (by_values, e, f)

        pub of_neither : one.value ≡ None → two.value ≡ None → refusal 15 0 ≡ lookup_of l m s t q
        unfolding or_else
        of_neither e f = rw (by_values, e, f)
