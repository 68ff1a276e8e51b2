-- Depth and rank where they may be mistaken: at places that a reader leaves, and at others that fit.
use Rattle.std.specs.Prelude.{ℕ, Bool, true, false, List, [], ◌∷◌, ◌++◌}
use Rattle.cdf_unit_table.specs.Ids.{call, parameter, template}
use Rattle.cdf_unit_table.specs.States.{stream_call, stream_group, call_parameters, call_skipped, er_data, template_new, template_keys}
use Rattle.cdf_unit_prefix.specs.Layout.{Layout, layout_of}
use Rattle.cdf_unit_prefix.specs.declared.Edition.TheVariants.{First}
use Rattle.cdf_unit_list.specs.Samples.{k1}
use Rattle.cdf_unit_list.specs.declared.Unit.{Unit}
use Rattle.cdf_reader_spec.specs.Place.{ReaderPlace}
use Rattle.cdf_reader_spec.specs.Closing.{closed_at}
use Rattle.cdf_reader_spec.specs.Calls.{Reply, first_of, next_of, skip_of, previous_of}
use Rattle.cdf_reader_spec.specs.NearMisses.{unit, in_state, ranked_place, aside}

abbrev first : Layout
first = layout_of First

-- A call of 8 bytes, and a parameter.
abbrev call_bytes : List ℕ
call_bytes = 0xcd ∷ 0xf1 ∷ 0 ∷ 8 ∷ 0 ∷ 2 ∷ 1 ∷ 0x41 ∷ []

abbrev parameter_bytes : List ℕ
parameter_bytes = 0xcd ∷ 0xf1 ∷ 0 ∷ 8 ∷ 0 ∷ 3 ∷ 1 ∷ 0x41 ∷ []

-- A stream of 30 bytes: a call at 6 with parameters at 14 and 22.
abbrev in_call : List ℕ
in_call =
    0xcd ∷ 0xf1 ∷ 0 ∷ 30 ∷ 0 ∷ 1 ∷ 0xcd ∷ 0xf1 ∷ 0 ∷ 24 ∷ 0 ∷ 2 ∷ 1 ∷ 0x41 ∷ (parameter_bytes ++ parameter_bytes)

-- A stream of 22 bytes: calls at 6 and 14.
abbrev two_calls : List ℕ
two_calls = 0xcd ∷ 0xf1 ∷ 0 ∷ 22 ∷ 0 ∷ 1 ∷ (call_bytes ++ call_bytes)

-- A stream of 26 bytes with a call at 18.
abbrev last_call : List ℕ
last_call = 0xcd ∷ 0xf1 ∷ 0 ∷ 26 ∷ 0 ∷ 1 ∷ 0xcd ∷ 0xf1 ∷ 0 ∷ 12 ∷ 0 ∷ 2 ∷ 5 ∷ 0x41 ∷ 0x41 ∷ 0x41 ∷ 0x41 ∷ 0x41 ∷ call_bytes

-- The place of a start on K1.
unfoldable pub started : ReaderPlace
unfolding first_of
started = (first_of first k1).place

-- The same with another last unit, flag and rank of the last unit.
unfoldable pub started_with : Unit → Bool → ℕ → ReaderPlace
unfolding started
started_with last fresh rank = ranked_place started.position started.units last fresh started.ranks rank

-- In the call of `in_call`, which is said to have had a parameter.
abbrev at_call : ℕ → ReaderPlace
at_call rank =
    ranked_place 14 (in_state call_parameters 6 30 ∷ in_state stream_call 0 30 ∷ []) (unit parameter 6 12 20) false (1 ∷ 2 ∷ []) rank

-- Behind the first parameter of `in_call`, with a last unit that starts before the call does.
abbrev past_call : ReaderPlace
past_call = ranked_place 22 (in_state call_parameters 6 30 ∷ in_state stream_call 0 30 ∷ []) aside false (1 ∷ 2 ∷ []) 3

-- At the end of the first of `two_calls`, which is the last unit too, and has another rank as that.
abbrev at_first : ReaderPlace
at_first = ranked_place 14 (in_state call_skipped 6 14 ∷ in_state stream_call 0 22 ∷ []) (unit call 6 14 14) false (2 ∷ 0 ∷ []) 1

-- At 18 of `last_call`, where a template in this state ends and the group around it.
abbrev at_ends : ℕ → Unit → Bool → List ℕ → ReaderPlace
at_ends state last fresh ranks =
    ranked_place 18 (in_state state 12 18 ∷ in_state er_data 6 18 ∷ in_state stream_group 0 26 ∷ []) last fresh ranks 2

-- Number, depth and rank of a reply; of PREVIOUS's and NEXT's at a place.
abbrev told : Reply → List ℕ
told r = r.number ∷ r.handed.depth ∷ r.handed.rank ∷ []

abbrev told_at : List ℕ → ReaderPlace → List ℕ
told_at s p = told (previous_of first s p) ++ told (next_of first s p)

unfoldable pub stands_found : List (List ℕ)
unfolding first_of next_of skip_of previous_of started_with
stands_found =
    -- the root, with the rank of a second and of a third sibling: the first child's stays 0, and a sixth of the position is the limit
    told_at k1 (started_with started.last true 1)
    ∷ told_at k1 (started_with started.last true 2)
    -- a last unit that starts where the innermost does has its depth, whatever its id, end and flag; what comes next is the first in it
    ∷ told_at k1 (started_with (unit 17 0 6 12) false 0)
    ∷ told_at k1 (started_with started.last false 0)
    ∷ told_at in_call (at_call 2)
    ∷ told_at in_call (at_call 3)
    -- one that starts elsewhere, be it before the innermost, has a next sibling
    ∷ told_at in_call past_call
    -- after units that close: one above the outermost of them, also where that is the last unit; the rank of one between is asked too
    ∷ told_at last_call (at_ends template_keys aside false (3 ∷ 1 ∷ 0 ∷ []))
    ∷ told_at last_call (at_ends template_keys aside false (3 ∷ 4 ∷ 0 ∷ []))
    ∷ told_at two_calls at_first
    -- SKIP hands out no unit; the root that was skipped is as deep as it was, and a unit that was skipped is one sibling
    ∷ told (skip_of first k1 started)
    ∷ told_at k1 (skip_of first k1 started).place
    ∷ told_at two_calls (skip_of first two_calls (next_of first two_calls (first_of first two_calls).place).place).place
    ∷ []

-- What both answer at a place that does not fit.
abbrev no_fit : List ℕ
no_fit = 2 ∷ 0 ∷ 0 ∷ 2 ∷ 0 ∷ 0 ∷ []

abbrev pub stands_due : List (List ℕ)
stands_due =
    (0 ∷ 1 ∷ 1 ∷ 0 ∷ 2 ∷ 0 ∷ [])
    ∷ no_fit
    ∷ (0 ∷ 1 ∷ 0 ∷ 0 ∷ 2 ∷ 0 ∷ [])
    ∷ (0 ∷ 1 ∷ 0 ∷ 0 ∷ 2 ∷ 0 ∷ [])
    ∷ (0 ∷ 2 ∷ 2 ∷ 0 ∷ 3 ∷ 0 ∷ [])
    ∷ no_fit
    ∷ (0 ∷ 3 ∷ 3 ∷ 0 ∷ 3 ∷ 4 ∷ [])
    ∷ (0 ∷ 4 ∷ 2 ∷ 0 ∷ 2 ∷ 2 ∷ [])
    ∷ no_fit
    ∷ (0 ∷ 2 ∷ 1 ∷ 0 ∷ 2 ∷ 3 ∷ [])
    ∷ (0 ∷ 0 ∷ 0 ∷ [])
    ∷ (0 ∷ 1 ∷ 0 ∷ 1 ∷ 0 ∷ 0 ∷ [])
    ∷ (0 ∷ 2 ∷ 0 ∷ 0 ∷ 2 ∷ 1 ∷ [])
    ∷ []

-- Closing alone: complete units that end at the position go with their ranks, an incomplete one stays with all around it, and so does
-- all else, the last unit's rank and the flag too.
unfoldable pub closed_found : List ReaderPlace
unfolding closed_at
closed_found =
    closed_at (at_ends template_keys aside false (3 ∷ 1 ∷ 0 ∷ []))
    ∷ closed_at (at_ends template_keys (unit template 12 18 18) true (1 ∷ 2 ∷ 3 ∷ []))
    ∷ closed_at (at_ends template_new aside false (3 ∷ 1 ∷ 0 ∷ []))
    ∷ []

abbrev pub closed_due : List ReaderPlace
closed_due =
    ranked_place 18 (in_state stream_group 0 26 ∷ []) aside false (0 ∷ []) 2
    ∷ ranked_place 18 (in_state stream_group 0 26 ∷ []) (unit template 12 18 18) true (3 ∷ []) 2
    ∷ at_ends template_new aside false (3 ∷ 1 ∷ 0 ∷ [])
    ∷ []
