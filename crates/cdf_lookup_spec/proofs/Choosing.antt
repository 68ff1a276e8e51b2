-- What a lookup answers, in the words of the claims.
use Rattle.std.proofs.Common.{ℕ, ◌-◌, ◌≤◌, ◌≡◌, refl, sym, ◌∙◌, Bool, not, ◌&&◌, List, ◌⊎◌, inl, inr, arith, eqb, length}
use Rattle.std.proofs.lemmas.Bool.{eqb-false, not-true}
use mathlib.Core.Option.{Option, none, some}
use Rattle.std.specs.Prelude.{Some, None as Missing}
use Rattle.cdf_unit_table.specs.Ids.{field}
use Rattle.cdf_unit_table.proofs.Bools.{of_cond, clash}
use Rattle.cdf_unit_prefix.specs.Layout.{Layout}
use Rattle.cdf_unit_list.specs.Units.{End, unfinished, ended, fault, listing}
use Rattle.cdf_unit_list.specs.Check.{answer_of, answer, check_of}
use Rattle.cdf_unit_list.specs.declared.Unit.{Unit}
use Rattle.cdf_unit_list.proofs.Proved.{proved}
use Rattle.cdf_lookup_spec.specs.Find.{Query, Value, at_span, named, inside, first_that, is_that_template, value_of, value_inside, value_in}
use Rattle.cdf_lookup_spec.specs.Find.{Lookup, refusal, found, or_else, is_group, lookup_of}
use Rattle.cdf_lookup_spec.specs.Chosen.{None, FieldIn, Asked, Chosen, Lacks, stream_of}
use Rattle.cdf_lookup_spec.proofs.Telling.{span_is, first_some, first_none, some_first, asked_tells, field_tells}

-- The check's numbers are 0 and 3 to 10,
abbrev OfCheck : ℕ → Type 0
OfCheck n = (n ≡ 0 → ⊥) → (3 ≤ n) × (n ≤ 10)

pub check_numbers : (l : Layout) (s : List ℕ) → OfCheck (check_of l s).number
unfolding check_of answer
check_numbers l s = go (listing l s).end refl
  where
    go : (x : End) → (listing l s).end ≡ x → OfCheck (answer_of (length (listing l s).units) x).number
    go unfinished q other = absurd (proved.finishes l s q)
    go ended q other = absurd (other refl)
    go (fault n at) q other = proved.numbered l s q

-- and none is 15.
check_below : (l : Layout) (s : List ℕ) → (check_of l s).number ≡ 15 → ⊥
check_below l s e = omega (arith, check_numbers l s (λ z. omega arith))

-- What holds of a refusal that is not 15, of a value of each stream and of 15 holds of the answer.
module _ (l m : Layout) (s t : List ℕ) (q : Query) where
  record Cases (P : Lookup → Type 0) : Type 0 where
    refused : (n at : ℕ) → (n ≡ 0 → ⊥) → (n ≡ 15 → ⊥) → P (refusal n at)
    first : (a e : ℕ) → value_in l s q ≡ at_span a e → P (found 1 a e)
    second : (a e : ℕ) → value_in l s q ≡ Missing → value_in m t q ≡ at_span a e → P (found 2 a e)
    neither : value_in l s q ≡ Missing → value_in m t q ≡ Missing → P (refusal 15 0)

  searched : (P : Lookup → Type 0) → Cases P → P (or_else 1 (value_in l s q) (or_else 2 (value_in m t q) (refusal 15 0)))
  unfolding or_else
  searched P c = go (value_in l s q) (value_in m t q) refl refl
    where
      go : (v w : Value) → value_in l s q ≡ v → value_in m t q ≡ w → P (or_else 1 v (or_else 2 w (refusal 15 0)))
      go (Some v) w x y = c.first v.start v.end x
      go Missing (Some w) x y = c.second w.start w.end x y
      go Missing Missing x y = c.neither x y

  answered : (P : Lookup → Type 0) → Cases P → P (lookup_of l m s t q)
  unfolding lookup_of
  answered P c =
      of_cond P (not (eqb (check_of l s).number 0)) _ _
      (λ e. c.refused _ _ (eqb-false _ _ (not-true (eqb (check_of l s).number 0) e)) (check_below l s))
      (λ e. of_cond P (not (eqb (check_of m t).number 0)) _ _
      (λ e. c.refused _ _ (eqb-false _ _ (not-true (eqb (check_of m t).number 0) e)) (check_below m t))
      (λ e. of_cond P (not (is_group (listing l s).units)) _ _ (λ e. c.refused 7 0 (λ z. omega arith) (λ z. omega arith))
      (λ e. of_cond P (not (is_group (listing m t).units)) _ _ (λ e. c.refused 7 0 (λ z. omega arith) (λ z. omega arith))
      (λ e. searched P c))))

-- The value of a stream.
module _ (l : Layout) (s : List ℕ) (q : Query) where
  abbrev pub is_field : Unit → Unit → Bool
  is_field t u = inside t u && named l s field q.field u

  abbrev pub is_asked : Unit → Bool
  is_asked = is_that_template l s q (listing l s).units

  pub value_is : value_in l s q ≡ value_inside l s q (listing l s).units (first_that is_asked (listing l s).units)
  unfolding value_in
  value_is = refl

  pub inside_is : (t : Unit) → value_inside l s q (listing l s).units (some t) ≡ value_of (first_that (is_field t) (listing l s).units)
  unfolding value_inside
  inside_is t = refl

  inside_none : value_inside l s q (listing l s).units none ≡ Missing
  unfolding value_inside
  inside_none = refl

  chosen : (start end : ℕ) → value_in l s q ≡ at_span start end → Chosen l s q start (end - start)
  chosen start end e = go (first_that is_asked (listing l s).units) refl (sym value_is ∙ e)
    where
      with_field : (t : Unit) → first_that is_asked (listing l s).units ≡ some t → (o : Option Unit) → first_that (is_field t) (listing l s).units ≡ o →
          value_of o ≡ at_span start end → Chosen l s q start (end - start)
      with_field t x none y z = clash cc
      with_field t x (some u) y z =
          let (begins, ends) = span_is (record { start = start; end = end }) (record { start = u.own; end = u.end }) (sym z) in
          record {
            template = t;
            field = u;
            first_template = first_some is_asked (Asked l s q) (asked_tells l s q) (listing l s).units t x;
            first_field = first_some (is_field t) (FieldIn l s q t) (field_tells l s q t) (listing l s).units u y;
            begins = begins;
            long = rw (begins, ends);
          }

      go : (o : Option Unit) → first_that is_asked (listing l s).units ≡ o → value_inside l s q (listing l s).units o ≡ at_span start end →
          Chosen l s q start (end - start)
      go none x z = clash (cc inside_none)
      go (some t) x z = with_field t x (first_that (is_field t) (listing l s).units) refl (sym (inside_is t) ∙ z)

  lacks : value_in l s q ≡ Missing → Lacks l s q
  lacks e t f =
      go (first_that (is_field t) (listing l s).units) refl
      (sym (inside_is t) ∙ (rw (some_first is_asked (Asked l s q) (asked_tells l s q) f) at (sym value_is ∙ e)))
    where
      go : (o : Option Unit) → first_that (is_field t) (listing l s).units ≡ o → value_of o ≡ Missing → None (FieldIn l s q t) (listing l s).units
      go none x z = first_none (is_field t) (FieldIn l s q t) (field_tells l s q t) (listing l s).units x
      go (some u) x z = clash cc

module _ (l m : Layout) (s t : List ℕ) (q : Query) where
  pub named_one : (lookup_of l m s t q).number ≡ 0 → ((lookup_of l m s t q).which ≡ 1) ⊎ ((lookup_of l m s t q).which ≡ 2)
  named_one = answered l m s t q (λ r. r.number ≡ 0 → (r.which ≡ 1) ⊎ (r.which ≡ 2)) (record {
    refused = λ n at some other z. absurd (some z);
    first = λ a e x z. inl refl;
    second = λ a e x y z. inr refl;
    neither = λ x y z. absurd (omega arith);
  })

  pub chosen_part : (lookup_of l m s t q).number ≡ 0 →
      Chosen (stream_of (lookup_of l m s t q).which l m) (stream_of (lookup_of l m s t q).which s t) q (lookup_of l m s t q).start (lookup_of l m s t q).size
  chosen_part = answered l m s t q (λ r. r.number ≡ 0 → Chosen (stream_of r.which l m) (stream_of r.which s t) q r.start r.size) (record {
    refused = λ n at some other z. absurd (some z);
    first = λ a e x z. chosen l s q a e x;
    second = λ a e x y z. chosen m t q a e y;
    neither = λ x y z. absurd (omega arith);
  })

  pub second_lacks : (lookup_of l m s t q).which ≡ 2 → Lacks l s q
  second_lacks = answered l m s t q (λ r. r.which ≡ 2 → Lacks l s q) (record {
    refused = λ n at some other z. absurd (omega arith);
    first = λ a e x z. absurd (omega arith);
    second = λ a e x y z. lacks l s q x;
    neither = λ x y z. absurd (omega arith);
  })

  pub both_lack : (lookup_of l m s t q).number ≡ 15 → Lacks l s q × Lacks m t q
  both_lack = answered l m s t q (λ r. r.number ≡ 15 → Lacks l s q × Lacks m t q) (record {
    refused = λ n at some other z. absurd (other z);
    first = λ a e x z. absurd (omega arith);
    second = λ a e x y z. absurd (omega arith);
    neither = λ x y z. (lacks l s q x, lacks m t q y);
  })

  pub refused_empty : ((lookup_of l m s t q).number ≡ 0 → ⊥) →
      lookup_of l m s t q ≡ refusal (lookup_of l m s t q).number (lookup_of l m s t q).offset
  refused_empty = answered l m s t q (λ r. (r.number ≡ 0 → ⊥) → r ≡ refusal r.number r.offset) (record {
    refused = λ n at some other z. refl;
    first = λ a e x z. absurd (z refl);
    second = λ a e x y z. absurd (z refl);
    neither = λ x y z. refl;
  })

pub equal_first : (l : Layout) (s : List ℕ) (q : Query) → (lookup_of l l s s q).which ≡ 2 → ⊥
equal_first l s q = answered l l s s q (λ r. r.which ≡ 2 → ⊥) (record {
  refused = λ n at some other z. omega arith;
  first = λ a e x z. omega arith;
  second = λ a e x y z. clash cc;
  neither = λ x y z. omega arith;
})
