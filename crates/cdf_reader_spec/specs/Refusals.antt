-- 11 and 2: what NEXT, SKIP, GET_STREAM and PREVIOUS answer at the empty place and at places that do not fit.
use Rattle.std.specs.Prelude.{ℕ, true, false, List, [], ◌∷◌, map}
use Rattle.cdf_unit_table.specs.Ids.{er_group, template, temporary_key}
use Rattle.cdf_unit_prefix.specs.Layout.{layout_of}
use Rattle.cdf_unit_prefix.specs.declared.Edition.TheVariants.{First}
use Rattle.cdf_unit_list.specs.Samples.{k2}
use Rattle.cdf_reader_spec.specs.Place.{ReaderPlace}
use Rattle.cdf_reader_spec.specs.Calls.{empty_place, next_of, skip_of, take_of, previous_of}
use Rattle.cdf_reader_spec.specs.NearMisses.{unit, place, group, inner}

-- The four numbers, on the bytes of K2.
unfoldable pub numbers_at : ReaderPlace → List ℕ
unfolding next_of skip_of take_of previous_of
numbers_at p =
    (next_of (layout_of First) k2 p).number
    ∷ (skip_of (layout_of First) k2 p).number
    ∷ (take_of (layout_of First) k2 p).number
    ∷ (previous_of (layout_of First) k2 p).number
    ∷ []

abbrev pub unfit_places : List ReaderPlace
unfit_places =
    -- the empty place, and one that is as empty with a group as its last unit and the flag on
    empty_place
    ∷ place 6 [] (unit er_group 0 6 46) true
    -- no fit: with the flag off; with the flag on, and the last unit a key, a template, a group
    ∷ place 47 (inner ∷ group ∷ []) (unit er_group 0 6 46) false
    ∷ place 19 (inner ∷ group ∷ []) (unit temporary_key 19 29 29) true
    ∷ place 20 (inner ∷ group ∷ []) (unit template 6 19 46) true
    ∷ place 19 (inner ∷ group ∷ []) (unit er_group 6 19 46) true
    ∷ []

-- 11 before 2: nothing to read on from; nothing to skip or take; and only then that the place does not fit.
abbrev pub refusals_due : List (List ℕ)
refusals_due =
    (11 ∷ 11 ∷ 11 ∷ 11 ∷ [])
    ∷ (11 ∷ 11 ∷ 11 ∷ 11 ∷ [])
    ∷ (2 ∷ 11 ∷ 11 ∷ 2 ∷ [])
    ∷ (2 ∷ 11 ∷ 11 ∷ 2 ∷ [])
    ∷ (2 ∷ 2 ∷ 11 ∷ 2 ∷ [])
    ∷ (2 ∷ 2 ∷ 2 ∷ 2 ∷ [])
    ∷ []

unfoldable pub refusals_found : List (List ℕ)
unfolding numbers_at
refusals_found = map numbers_at unfit_places
