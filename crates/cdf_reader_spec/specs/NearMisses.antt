-- Each clause of a place's rule decides: places on the sample K2, each of which breaks one clause alone, and some at the very edge
-- that keep them all.
use Rattle.std.specs.Prelude.{ℕ, Bool, true, false, List, [], ◌∷◌, map}
use Rattle.cdf_unit_table.specs.Ids.{er_group, template}
use Rattle.cdf_unit_table.specs.States.{er_data, call_new, template_new, template_keys}
use Rattle.cdf_unit_prefix.specs.Layout.{layout_of}
use Rattle.cdf_unit_prefix.specs.declared.Edition.TheVariants.{First, Second}
use Rattle.cdf_unit_list.specs.declared.Unit.{Unit}
use Rattle.cdf_unit_list.specs.declared.Open.{Open}
use Rattle.cdf_reader_spec.specs.Place.{ReaderPlace, clauses}

abbrev pub unit : ℕ → ℕ → ℕ → ℕ → Unit
unit id from own end = record { id = id; action = 1; start = from; own = own; end = end }

abbrev pub in_state : ℕ → ℕ → ℕ → Open
in_state state from end = record { state = state; start = from; end = end }

-- A place whose open units have these ranks, and whose last unit has this one; and one where each is the first of its siblings.
abbrev pub ranked_place : ℕ → List Open → Unit → Bool → List ℕ → ℕ → ReaderPlace
ranked_place position units last fresh ranks last_rank =
    record { position = position; units = units; last = last; fresh = fresh; ranks = ranks; last_rank = last_rank }

abbrev pub place : ℕ → List Open → Unit → Bool → ReaderPlace
place position units last fresh = ranked_place position units last fresh (map (λ o. 0) units) 0

-- K2 has 46 bytes; its group starts at 0, its template at 6 with its own end at 19 and its end at 46. The flag is on just after the
-- template was handed out; `aside` is a last unit that has nothing to do with the open ones.
abbrev pub group : Open
group = in_state er_data 0 46

abbrev pub inner : Open
inner = in_state template_new 6 46

abbrev pub aside : Unit
aside = unit 0 0 6 6

-- In the template, behind its key, with these ranks.
abbrev ranked_at : ℕ → List ℕ → ℕ → ReaderPlace
ranked_at position ranks last_rank = ranked_place position (in_state template_keys 6 46 ∷ group ∷ []) aside false ranks last_rank

abbrev pub near_misses : List ReaderPlace
near_misses =
    -- right: just after the template, after its key, and at its end
    place 19 (inner ∷ group ∷ []) (unit template 6 19 46) true
    ∷ place 29 (in_state template_keys 6 46 ∷ group ∷ []) aside false
    ∷ place 46 (in_state template_keys 6 46 ∷ group ∷ []) (unit 0 40 46 46) false
    -- the kinds: a root that is none, a kind that is not admitted
    ∷ place 19 (in_state template_new 0 46 ∷ []) aside false
    ∷ place 19 (in_state call_new 6 46 ∷ group ∷ []) aside false
    -- the starts: not at 0, less than a prefix further
    ∷ place 19 (inner ∷ in_state er_data 1 46 ∷ []) aside false
    ∷ place 19 (in_state template_new 5 46 ∷ group ∷ []) aside false
    -- the ends: not the last byte, after the unit outside
    ∷ place 19 (in_state template_new 6 45 ∷ in_state er_data 0 45 ∷ []) aside false
    ∷ place 19 (in_state template_new 6 47 ∷ group ∷ []) aside false
    -- the position: in the prefix of the innermost, past its end
    ∷ place 11 (inner ∷ group ∷ []) aside false
    ∷ place 47 (inner ∷ group ∷ []) aside false
    -- the last unit: own end in the prefix, end before own end, end past the bytes
    ∷ place 19 (inner ∷ group ∷ []) (unit 0 0 5 6) false
    ∷ place 19 (inner ∷ group ∷ []) (unit 0 0 7 6) false
    ∷ place 19 (inner ∷ group ∷ []) (unit 0 0 6 47) false
    -- the flag: another id, another start, another end, something had, a position that is not the own end
    ∷ place 19 (inner ∷ group ∷ []) (unit er_group 6 19 46) true
    ∷ place 19 (inner ∷ group ∷ []) (unit template 7 19 46) true
    ∷ place 19 (inner ∷ group ∷ []) (unit template 6 19 45) true
    ∷ place 19 (in_state template_keys 6 46 ∷ group ∷ []) (unit template 6 19 46) true
    ∷ place 20 (inner ∷ group ∷ []) (unit template 6 19 46) true
    -- the ranks: right at a sixth of the position; a byte short of it the innermost unit's, an outer one's, the last's; one too few, one too many
    ∷ ranked_at 30 (5 ∷ 5 ∷ []) 5
    ∷ ranked_at 35 (6 ∷ 5 ∷ []) 5
    ∷ ranked_at 35 (5 ∷ 6 ∷ []) 5
    ∷ ranked_at 35 (5 ∷ 5 ∷ []) 6
    ∷ ranked_at 30 (5 ∷ []) 5
    ∷ ranked_at 30 (5 ∷ 5 ∷ 0 ∷ []) 5
    ∷ []

-- Of the nine clauses these hold, in the order of `clauses`: how many are open; kinds; states; starts; ends; position; last; flag; ranks.
abbrev kept_all : List Bool
kept_all = true ∷ true ∷ true ∷ true ∷ true ∷ true ∷ true ∷ true ∷ true ∷ []

abbrev misses_kinds : List Bool
misses_kinds = true ∷ false ∷ true ∷ true ∷ true ∷ true ∷ true ∷ true ∷ true ∷ []

abbrev misses_starts : List Bool
misses_starts = true ∷ true ∷ true ∷ false ∷ true ∷ true ∷ true ∷ true ∷ true ∷ []

abbrev misses_ends : List Bool
misses_ends = true ∷ true ∷ true ∷ true ∷ false ∷ true ∷ true ∷ true ∷ true ∷ []

abbrev misses_position : List Bool
misses_position = true ∷ true ∷ true ∷ true ∷ true ∷ false ∷ true ∷ true ∷ true ∷ []

abbrev misses_last : List Bool
misses_last = true ∷ true ∷ true ∷ true ∷ true ∷ true ∷ false ∷ true ∷ true ∷ []

abbrev misses_flag : List Bool
misses_flag = true ∷ true ∷ true ∷ true ∷ true ∷ true ∷ true ∷ false ∷ true ∷ []

abbrev misses_ranks : List Bool
misses_ranks = true ∷ true ∷ true ∷ true ∷ true ∷ true ∷ true ∷ true ∷ false ∷ []

abbrev pub misses_due : List (List Bool)
misses_due =
    kept_all
    ∷ kept_all
    ∷ kept_all
    ∷ misses_kinds
    ∷ misses_kinds
    ∷ misses_starts
    ∷ misses_starts
    ∷ misses_ends
    ∷ misses_ends
    ∷ misses_position
    ∷ misses_position
    ∷ misses_last
    ∷ misses_last
    ∷ misses_last
    ∷ misses_flag
    ∷ misses_flag
    ∷ misses_flag
    ∷ misses_flag
    ∷ misses_flag
    ∷ kept_all
    ∷ misses_ranks
    ∷ misses_ranks
    ∷ misses_ranks
    ∷ misses_ranks
    ∷ misses_ranks
    ∷ []

unfoldable pub misses_found : List (List Bool)
unfolding clauses
misses_found = map (clauses (layout_of First) 46) near_misses

-- The same clause in the second edition, a byte short of four prefixes: three are right, and four are too high for the open unit and for
-- the last.
abbrev at31 : ℕ → ℕ → ReaderPlace
at31 rank last_rank = ranked_place 31 (group ∷ []) (unit 0 0 8 8) false (rank ∷ []) last_rank

unfoldable pub eighth_found : List (List Bool)
unfolding clauses
eighth_found = map (clauses (layout_of Second) 46) (at31 3 3 ∷ at31 4 3 ∷ at31 3 4 ∷ [])

abbrev pub eighth_due : List (List Bool)
eighth_due = kept_all ∷ misses_ranks ∷ misses_ranks ∷ []
