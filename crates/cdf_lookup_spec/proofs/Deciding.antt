-- Which of its answers a lookup gives.
use Rattle.std.proofs.Common.{ℕ, ◌-◌, ◌≡◌, refl, sym, ◌∙◌, Bool, true, false, cond, not, List, [], ◌∷◌, ◌⊎◌, inl, inr, ◌↔◌, arith, eqb-true, eq-eqb}
use Rattle.std.proofs.Common.{ne_eqb}
use Rattle.std.proofs.lemmas.Bool.{false≢true}
use Rattle.std.specs.Prelude.{Some, None}
use Rattle.cdf_unit_table.specs.Ids.{er_group}
use Rattle.cdf_unit_prefix.specs.Layout.{Layout}
use Rattle.cdf_unit_list.specs.Units.{listing}
use Rattle.cdf_unit_list.specs.Check.{check_of}
use Rattle.cdf_unit_list.specs.declared.Unit.{Unit}
use Rattle.cdf_grammar.specs.Claims.{Accepted}
use Rattle.cdf_lookup_spec.specs.Find.{Query, Value, at_span, value_in, Lookup, refusal, or_else, is_group, lookup_of}
use Rattle.cdf_lookup_spec.specs.Chosen.{FieldIn, Asked, Chosen, Grouped}
use Rattle.cdf_lookup_spec.proofs.Telling.{some_first, asked_tells, field_tells}
use Rattle.cdf_lookup_spec.proofs.Choosing.{is_field, is_asked, value_is, inside_is}

-- The test of the root tells that it is an E/R group.
pub grouped : (l : Layout) (s : List ℕ) → is_group (listing l s).units ≡ true → Grouped l s
unfolding is_group
grouped l s e = go (listing l s).units refl e
  where
    go : (us : List Unit) → (listing l s).units ≡ us → is_group us ≡ true → Grouped l s
    go [] x e = absurd (false≢true e)
    go (u ∷ us) x e = (u, us, x, eqb-true u.id er_group e)

pub group_test : (l : Layout) (s : List ℕ) → Grouped l s → is_group (listing l s).units ≡ true
unfolding is_group
group_test l s (u, us, x, e) = rw x (eq-eqb u.id er_group e)

-- A value that is chosen is the stream's.
value_chosen : (l : Layout) (s : List ℕ) (q : Query) (start size : ℕ) → Chosen l s q start size →
    (end : ℕ) × (value_in l s q ≡ at_span start end) × (end - start ≡ size)
value_chosen l s q start size c = (
  c.field.end,
  rw (
    value_is l s q,
    some_first (is_asked l s q) (Asked l s q) (asked_tells l s q) c.first_template,
    inside_is l s q c.template,
    some_first (is_field l s q c.template) (FieldIn l s q c.template) (field_tells l s q c.template) c.first_field,
    c.begins,
  ),
  rw (c.begins, c.long),
)

module _ (l m : Layout) (s t : List ℕ) (q : Query) where
  pub first_checked : (Accepted l s → ⊥) → lookup_of l m s t q ≡ refusal (check_of l s).number (check_of l s).value
  unfolding lookup_of
  first_checked n = rw (ne_eqb (check_of l s).number 0 n)

  pub second_checked : Accepted l s → (Accepted m t → ⊥) → lookup_of l m s t q ≡ refusal (check_of m t).number (check_of m t).value
  unfolding lookup_of
  second_checked a n = rw (eq-eqb (check_of l s).number 0 a, ne_eqb (check_of m t).number 0 n)

  -- What is searched for, of two E/R groups.
  abbrev searching : Lookup
  searching = or_else 1 (value_in l s q) (or_else 2 (value_in m t q) (refusal 15 0))

  module _ (a : Accepted l s) (b : Accepted m t) where
    past_checks : lookup_of l m s t q
        ≡ cond (not (is_group (listing l s).units)) (refusal 7 0) (cond (not (is_group (listing m t).units)) (refusal 7 0) searching)
    unfolding lookup_of
    past_checks = rw (eq-eqb (check_of l s).number 0 a, eq-eqb (check_of m t).number 0 b)

    -- The search's answer is 0 or 15, and has no offset.
    searched : ((searching.number ≡ 0) ⊎ (searching.number ≡ 15)) × (searching.offset ≡ 0)
    unfolding or_else
    searched = go (value_in l s q) (value_in m t q)
      where
        go : (v w : Value) → let r : Lookup = or_else 1 v (or_else 2 w (refusal 15 0)) in
            ((r.number ≡ 0) ⊎ (r.number ≡ 15)) × (r.offset ≡ 0)
        go (Some x) w = (inl refl, refl)
        go None (Some x) = (inl refl, refl)
        go None None = (inr refl, refl)

    pub offset_none : (lookup_of l m s t q).offset ≡ 0
    offset_none = rw past_checks (go (is_group (listing l s).units) (is_group (listing m t).units))
      where
        go : (x y : Bool) → (cond (not x) (refusal 7 0) (cond (not y) (refusal 7 0) searching)).offset ≡ 0
        go false y = refl
        go true false = refl
        go true true = searched.1

    pub seven_is : ((lookup_of l m s t q).number ≡ 7) ↔ ((Grouped l s → ⊥) ⊎ (Grouped m t → ⊥))
    seven_is = rw past_checks (go (is_group (listing l s).units) (is_group (listing m t).units) refl refl)
      where
        not_seven : (searching.number ≡ 0) ⊎ (searching.number ≡ 15) → searching.number ≡ 7 → ⊥
        not_seven (inl x) e = omega arith
        not_seven (inr x) e = omega arith

        none : (k : Layout) (r : List ℕ) → is_group (listing k r).units ≡ false → Grouped k r → ⊥
        none k r x g = false≢true (sym x ∙ group_test k r g)

        neither : Grouped l s → Grouped m t → (Grouped l s → ⊥) ⊎ (Grouped m t → ⊥) → ⊥
        neither g h (inl n) = n g
        neither g h (inr n) = n h

        go : (x y : Bool) → is_group (listing l s).units ≡ x → is_group (listing m t).units ≡ y →
            ((cond (not x) (refusal 7 0) (cond (not y) (refusal 7 0) searching)).number ≡ 7) ↔ ((Grouped l s → ⊥) ⊎ (Grouped m t → ⊥))
        go false y e f = ((λ z. inl (none l s e)), λ z. refl)
        go true false e f = ((λ z. inr (none m t f)), λ z. refl)
        go true true e f = ((λ z. absurd (not_seven searched.0 z)), λ n. absurd (neither (grouped l s e) (grouped m t f) n))

    module _ (g : Grouped l s) (h : Grouped m t) where
      past_roots : lookup_of l m s t q ≡ searching
      past_roots = past_checks ∙ rw (group_test l s g, group_test m t h)

      pub grouped_answers : ((lookup_of l m s t q).number ≡ 0) ⊎ ((lookup_of l m s t q).number ≡ 15)
      grouped_answers = rw past_roots searched.0

pub first_found : (l m : Layout) (s t : List ℕ) (q : Query) (start size : ℕ) → Accepted l s → Accepted m t → Grouped l s → Grouped m t →
    Chosen l s q start size → lookup_of l m s t q ≡ record { number = 0; offset = 0; which = 1; start = start; size = size }
unfolding or_else
first_found l m s t q start size a b g h c =
    let (end, is, long) = value_chosen l s q start size c in
    past_roots l m s t q a b g h ∙ rw (is, long)
