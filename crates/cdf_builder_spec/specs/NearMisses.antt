-- Each clause of the place's rule decides: places of a builder in the first edition, each of which breaks one clause alone, and
-- some at the very edge that keep them all.
use Rattle.std.specs.Prelude.{ℕ, Bool, true, false, List, [], ◌∷◌, map}
use Rattle.cdf_unit_table.specs.States.{stream_group, er_new, er_data, er_skipped, call_new, template_new, template_keys, template_skipped}
use Rattle.cdf_unit_table.specs.States.{relation_new, entity_new}
use Rattle.cdf_unit_prefix.specs.Layout.{layout_of}
use Rattle.cdf_unit_prefix.specs.declared.Edition.TheVariants.{First}
use Rattle.cdf_builder_spec.specs.declared.Begun.{Begun}
use Rattle.cdf_builder_spec.specs.Place.{BuilderPlace, clauses}

-- A place, and how many bytes the buffer has.
pub record Case : Type 0 where
  pub room : ℕ
  pub place : BuilderPlace

abbrev case : ℕ → ℕ → List Begun → Case
case n written units = record { room = n; place = record { written = written; units = units } }

abbrev begin : ℕ → ℕ → Begun
begin state from = record { state = state; start = from }

-- The group and the template of K2 as they stand while it is built: the group starts at 0, the template at 6.
abbrev group : Begun
group = begin er_data 0

abbrev inner : Begun
inner = begin template_new 6

abbrev pub near_misses : List Case
near_misses =
    -- right: the root alone, the template just begun, the buffer full, as many bytes as a stream may have, and four units that
    -- are prefixes alone
    case 46 6 (begin er_new 0 ∷ [])
    ∷ case 46 12 (inner ∷ group ∷ [])
    ∷ case 46 46 (begin template_keys 6 ∷ group ∷ [])
    ∷ case 65536 65535 (inner ∷ group ∷ [])
    ∷ case 24 24 (begin entity_new 18 ∷ begin relation_new 12 ∷ begin er_data 6 ∷ begin stream_group 0 ∷ [])
    -- more is written than the buffer has
    ∷ case 45 46 (inner ∷ group ∷ [])
    -- more than the limit
    ∷ case 65536 65536 (inner ∷ group ∷ [])
    -- the kinds: a root that is none, a kind that is not admitted
    ∷ case 46 19 (begin template_new 0 ∷ [])
    ∷ case 46 19 (begin call_new 6 ∷ group ∷ [])
    -- the states: the innermost was skipped, the outermost was
    ∷ case 46 19 (begin template_skipped 6 ∷ group ∷ [])
    ∷ case 46 19 (inner ∷ begin er_skipped 0 ∷ [])
    -- the starts: not at 0, less than a prefix further
    ∷ case 46 19 (begin template_new 7 ∷ begin er_data 1 ∷ [])
    ∷ case 46 19 (begin template_new 5 ∷ group ∷ [])
    -- the innermost one's prefix is not written
    ∷ case 46 11 (inner ∷ group ∷ [])
    ∷ []

-- Of the seven clauses these hold, in the order of `clauses`: buffer; limit; how many are open; kinds; states; starts; prefix.
abbrev kept_all : List Bool
kept_all = true ∷ true ∷ true ∷ true ∷ true ∷ true ∷ true ∷ []

abbrev no_room : List Bool
no_room = false ∷ true ∷ true ∷ true ∷ true ∷ true ∷ true ∷ []

abbrev no_limit : List Bool
no_limit = true ∷ false ∷ true ∷ true ∷ true ∷ true ∷ true ∷ []

abbrev no_kinds : List Bool
no_kinds = true ∷ true ∷ true ∷ false ∷ true ∷ true ∷ true ∷ []

abbrev no_states : List Bool
no_states = true ∷ true ∷ true ∷ true ∷ false ∷ true ∷ true ∷ []

abbrev no_starts : List Bool
no_starts = true ∷ true ∷ true ∷ true ∷ true ∷ false ∷ true ∷ []

abbrev no_prefix : List Bool
no_prefix = true ∷ true ∷ true ∷ true ∷ true ∷ true ∷ false ∷ []

abbrev pub misses_due : List (List Bool)
misses_due =
    kept_all
    ∷ kept_all
    ∷ kept_all
    ∷ kept_all
    ∷ kept_all
    ∷ no_room
    ∷ no_limit
    ∷ no_kinds
    ∷ no_kinds
    ∷ no_states
    ∷ no_states
    ∷ no_starts
    ∷ no_starts
    ∷ no_prefix
    ∷ []

unfoldable pub misses_found : List (List Bool)
unfolding clauses
misses_found = map (λ c. clauses (layout_of First) c.room c.place) near_misses
