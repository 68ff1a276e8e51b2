-- Entity keys resolved to the templates that they mean (02, i), from the unit list with its ranks and the bytes.
use Rattle.std.specs.Prelude.{ℕ, suc, Bool, true, false, not, cond, ◌&&◌, List, [], ◌∷◌, ◌++◌, eqb, ltb, length, drop}
use Rattle.std.proofs.Math.Option.{Option, none, some}
use Rattle.cdf_unit_table.specs.Ids.{template, temporary_key, entity_key}
use Rattle.cdf_unit_prefix.specs.Layout.{Layout}
use Rattle.cdf_unit_list.specs.Units.{listing}
use Rattle.cdf_unit_list.specs.Check.{check_of}
use Rattle.cdf_unit_list.specs.Ranks.{ranked_units}
use Rattle.cdf_unit_list.specs.declared.Unit.{Unit}
use Rattle.cdf_unit_list.specs.declared.Ranked.{Ranked}
use Rattle.cdf_lookup_spec.specs.Find.{Query, query, name_of, key_of, is_key, inside, first_that, passes, is_that_template, is_group}

-- How many templates with temporary keys a group may have (02, i).
abbrev pub most_templates : ℕ
most_templates = 256

-- The key of a template or an entity key: of the listed units `us`, the first key inside it.
unfoldable pub key_in : List Unit → Unit → Option Unit
unfolding inside is_key first_that
key_in us u = first_that (λ k. inside u k && is_key k) us

abbrev pub is_temporary : Unit → Bool
is_temporary k = eqb k.id temporary_key

-- A unit of this id whose key is a temporary one.
unfoldable pub has_temporary : List Unit → ℕ → Unit → Bool
unfolding key_in passes
has_temporary us id u = eqb u.id id && passes is_temporary (key_in us u)

-- The bytes of a key; of none no bytes.
abbrev pub key_bytes : Layout → List ℕ → Option Unit → List ℕ
key_bytes l s none = []
key_bytes l s (some k) = key_of l s k

-- What u asks of the template that it means: its own name, and its own temporary key. No field is asked for.
abbrev pub meaning : Layout → List ℕ → List ℕ → Unit → Query
meaning l s key u = query (name_of l s u) temporary_key key []

-- A template that has the name and the temporary key of u, and stands earlier.
unfoldable pub is_earlier : Layout → List ℕ → List Unit → Unit → Unit → Bool
unfolding is_that_template key_in
is_earlier l s us u t = ltb t.start u.start && is_that_template l s (meaning l s (key_bytes l s (key_in us u)) u) us t

-- The rank of the first of the units that passes the test.
unfoldable pub rank_that : (Unit → Bool) → List Ranked → Option ℕ
rank_that test [] = none
rank_that test (r ∷ rs) = cond (test r.unit) (some r.rank) (rank_that test rs)

-- The rank of the template that u means.
unfoldable pub meant_by : Layout → List ℕ → Unit → Option ℕ
unfolding rank_that is_earlier listing ranked_units
meant_by l s u = rank_that (is_earlier l s (listing l s).units u) (ranked_units l s)

unfoldable pub is_there : Option ℕ → Bool
is_there none = false
is_there (some rank) = true

-- A template with a temporary key, and an entity key with one.
abbrev pub unstored : Layout → List ℕ → Unit → Bool
unstored l s u = has_temporary (listing l s).units template u

abbrev pub asks : Layout → List ℕ → Unit → Bool
asks l s u = has_temporary (listing l s).units entity_key u

-- Doubled: a template like it in name and number stands earlier. Lacking: no such template stands earlier.
unfoldable pub is_doubled : Layout → List ℕ → Unit → Bool
unfolding has_temporary meant_by is_there
is_doubled l s t = unstored l s t && is_there (meant_by l s t)

unfoldable pub is_lacking : Layout → List ℕ → Unit → Bool
unfolding has_temporary meant_by is_there
is_lacking l s u = asks l s u && not (is_there (meant_by l s u))

-- How many of the units pass.
unfoldable pub count_that : (Unit → Bool) → List Unit → ℕ
count_that test [] = 0
count_that test (u ∷ us) = cond (test u) (suc (count_that test us)) (count_that test us)

-- The ranks of the templates that are meant, in the order of the entity keys.
abbrev pub with_rank : Option ℕ → List ℕ → List ℕ
with_rank none ranks = ranks
with_rank (some rank) ranks = rank ∷ ranks

unfoldable pub ranks_from : Layout → List ℕ → List Unit → List ℕ
unfolding has_temporary meant_by
ranks_from l s [] = []
ranks_from l s (u ∷ us) = cond (asks l s u) (with_rank (meant_by l s u) (ranks_from l s us)) (ranks_from l s us)

unfoldable pub ranks_of : Layout → List ℕ → List ℕ
unfolding ranks_from listing
ranks_of l s = ranks_from l s (listing l s).units

-- What resolving answers: the number and its offset, and how many ranks are written; 0 of them on a refusal.
pub record Resolved : Type 0 where
  pub number : ℕ
  pub offset : ℕ
  pub count : ℕ

-- A refusal writes none.
abbrev pub refusal : ℕ → ℕ → Resolved
refusal number offset = record { number = number; offset = offset; count = 0 }

-- Refused at the unit's start, if there is one; else what is answered then.
unfoldable pub refused_at : ℕ → Option Unit → Resolved → Resolved
refused_at number none other = other
refused_at number (some u) other = refusal number u.start

-- With 0 the count of the ranks, if the list has room for so many numbers.
abbrev pub counted : ℕ → ℕ → Resolved
counted count room = cond (ltb room count) (refusal 12 0) (record { number = 0; offset = 0; count = count })

-- Refusals, in this order: the check, 7 for another root, 18 for more templates than may be, 19 for a doubled one, 20 for an entity key that lacks
-- its template, 12 for a list too short (02, i).
unfoldable pub resolved_of : Layout → List ℕ → ℕ → Resolved
unfolding check_of listing is_group count_that first_that is_doubled is_lacking refused_at ranks_of
resolved_of l s room =
    let us : List Unit = (listing l s).units in
    cond (not (eqb (check_of l s).number 0)) (refusal (check_of l s).number (check_of l s).value)
    (cond (not (is_group us)) (refusal 7 0)
    (cond (ltb most_templates (count_that (unstored l s) us)) (refusal 18 0)
    (refused_at 19 (first_that (is_doubled l s) us)
    (refused_at 20 (first_that (is_lacking l s) us)
    (counted (length (ranks_of l s)) room)))))

-- A list with these numbers at its front; the rest stays.
abbrev pub at_front : List ℕ → List ℕ → List ℕ
at_front numbers list = numbers ++ drop (length numbers) list

-- The list after it: with 0 the ranks stand at its front, a refusal leaves all of it.
unfoldable pub list_after : Layout → List ℕ → List ℕ → List ℕ
unfolding resolved_of ranks_of
list_after l s list = cond (eqb (resolved_of l s (length list)).number 0) (at_front (ranks_of l s) list) list
