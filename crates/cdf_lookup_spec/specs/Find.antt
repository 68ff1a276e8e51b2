-- Which value counts (02, d): what is found in two streams, from their unit lists and their bytes.
use Rattle.std.specs.Prelude as std
use Rattle.std.specs.Prelude.{Some, None, ℕ, ◌+◌, ◌-◌, Bool, true, false, not, cond, ◌&&◌, ◌||◌, List, [], ◌∷◌, eqb, ltb, take, drop}
use Rattle.std.proofs.Math.Option.{Option, none, some}
use Rattle.cdf_unit_table.specs.Ids.{er_group, template, temporary_key, template_key, field}
use Rattle.cdf_unit_prefix.specs.Layout.{Layout, prefix_of}
use Rattle.cdf_unit_list.specs.Units.{listing}
use Rattle.cdf_unit_list.specs.Check.{check_of}
use Rattle.cdf_unit_list.specs.declared.Unit.{Unit}
use Rattle.cdf_lookup_spec.specs.declared.Span.{Span}

-- What is asked for: a template's name, the id and the bytes of its first key, and a field's name; names with their count byte (02, d).
pub record Query : Type 0 where
  pub template : List ℕ
  pub key_id : ℕ
  pub key : List ℕ
  pub field : List ℕ

abbrev pub query : List ℕ → ℕ → List ℕ → List ℕ → Query
query template key_id key field = record { template = template; key_id = key_id; key = key; field = field }

-- The bytes from one position up to another.
abbrev pub cut : ℕ → ℕ → List ℕ → List ℕ
cut from to s = take (to - from) (drop from s)

-- What stands in a unit between its prefix and a position.
abbrev pub text_to : Layout → List ℕ → Unit → ℕ → List ℕ
text_to l s u to = cut (u.start + prefix_of l) to s

-- A unit's name, its count byte first, goes up to where its own data end; a key is all behind its prefix.
abbrev pub name_of : Layout → List ℕ → Unit → List ℕ
name_of l s u = text_to l s u u.own

abbrev pub key_of : Layout → List ℕ → Unit → List ℕ
key_of l s u = text_to l s u u.end

unfoldable pub same_bytes : List ℕ → List ℕ → Bool
same_bytes [] [] = true
same_bytes [] (b ∷ bs) = false
same_bytes (a ∷ more) [] = false
same_bytes (a ∷ more) (b ∷ bs) = eqb a b && same_bytes more bs

-- A unit of this id, with these bytes up to the position.
unfoldable pub reads : Layout → List ℕ → ℕ → List ℕ → Unit → ℕ → Bool
unfolding same_bytes
reads l s id text u to = eqb u.id id && same_bytes (text_to l s u to) text

-- A unit of this id and name; a key of this id and these bytes.
abbrev pub named : Layout → List ℕ → ℕ → List ℕ → Unit → Bool
named l s id name u = reads l s id name u u.own

abbrev pub is_that_key : Layout → List ℕ → ℕ → List ℕ → Unit → Bool
is_that_key l s id key u = reads l s id key u u.end

-- A temporary key or a template key.
unfoldable pub is_key : Unit → Bool
is_key u = eqb u.id temporary_key || eqb u.id template_key

-- The second unit lies inside the first: it starts later, and before that one ends.
unfoldable pub inside : Unit → Unit → Bool
inside t u = ltb t.start u.start && ltb u.start t.end

-- The first of the units that passes the test.
unfoldable pub first_that : (Unit → Bool) → List Unit → Option Unit
first_that test [] = none
first_that test (u ∷ us) = cond (test u) (some u) (first_that test us)

unfoldable pub passes : (Unit → Bool) → Option Unit → Bool
passes test none = false
passes test (some u) = test u

-- A template of the name whose first key, of the listed units `us`, is that key (02, d).
unfoldable pub is_that_template : Layout → List ℕ → Query → List Unit → Unit → Bool
unfolding reads is_key inside first_that passes
is_that_template l s q us t =
    named l s template q.template t && passes (is_that_key l s q.key_id q.key) (first_that (λ u. inside t u && is_key u) us)

-- Where a value stands in its stream, or that it does not.
abbrev pub Value : Type 0
Value = std.Option Span

abbrev pub at_span : ℕ → ℕ → Value
at_span start end = Some (record { start = start; end = end })

-- In a template, the value of the first field of the name: what follows the name (02, d).
abbrev pub value_of : Option Unit → Value
value_of none = None
value_of (some u) = at_span u.own u.end

unfoldable pub value_inside : Layout → List ℕ → Query → List Unit → Option Unit → Value
unfolding reads inside first_that
value_inside l s q us none = None
value_inside l s q us (some t) = value_of (first_that (λ u. inside t u && named l s field q.field u) us)

-- Only the first such template of a stream is searched, whether or not it has the field (02, d).
unfoldable pub value_in : Layout → List ℕ → Query → Value
unfolding is_that_template value_inside first_that listing
value_in l s q =
    let us : List Unit = (listing l s).units in
    value_inside l s q us (first_that (is_that_template l s q us) us)

-- A lookup's answer: the number and its offset; in which stream the value stands, 1 or 2, and 0 on a refusal; where it starts there and how
-- many bytes it has, both 0 on a refusal.
pub record Lookup : Type 0 where
  pub number : ℕ
  pub offset : ℕ
  pub which : ℕ
  pub start : ℕ
  pub size : ℕ

-- A refusal names no stream; its part is empty and begins where the first stream does (02, d).
abbrev pub refusal : ℕ → ℕ → Lookup
refusal number offset = record { number = number; offset = offset; which = 0; start = 0; size = 0 }

-- A value that stands there in the stream that is named.
abbrev pub found : ℕ → ℕ → ℕ → Lookup
found which start end = record { number = 0; offset = 0; which = which; start = start; size = end - start }

-- The value if it is in this stream, and else what is answered then.
unfoldable pub or_else : ℕ → Value → Lookup → Lookup
or_else which (Some value) other = found which value.start value.end
or_else which None other = other

-- The root, which is listed first, is an E/R group.
unfoldable pub is_group : List Unit → Bool
is_group [] = false
is_group (u ∷ us) = eqb u.id er_group

-- Each stream is read in its own layout. Refusals, in this order: the first stream's check, the second's, 7 for another root in either, 15 for a
-- field found in neither (02, d).
unfoldable pub lookup_of : Layout → Layout → List ℕ → List ℕ → Query → Lookup
unfolding check_of listing value_in or_else is_group
lookup_of l m s t q =
    cond (not (eqb (check_of l s).number 0)) (refusal (check_of l s).number (check_of l s).value)
    (cond (not (eqb (check_of m t).number 0)) (refusal (check_of m t).number (check_of m t).value)
    (cond (not (is_group (listing l s).units)) (refusal 7 0)
    (cond (not (is_group (listing m t).units)) (refusal 7 0)
    (or_else 1 (value_in l s q) (or_else 2 (value_in m t q) (refusal 15 0))))))
