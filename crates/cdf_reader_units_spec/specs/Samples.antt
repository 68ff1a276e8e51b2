-- Batches of the samples, number by number.
use Rattle.std.specs.Prelude.{ℕ, List, [], ◌∷◌, map, length}
use Rattle.cdf_unit_prefix.specs.Layout.{Layout, layout_of}
use Rattle.cdf_unit_prefix.specs.declared.Edition.TheVariants.{First}
use Rattle.cdf_unit_list.specs.declared.Ranked.{Ranked}
use Rattle.cdf_reader_spec.specs.Calls.{first_of}
use Rattle.cdf_reader_units_spec.specs.Batch.{Batch, batch_of}

abbrev pub first : Layout
first = layout_of First

-- A unit as seven numbers; a batch as its number and offset, how many units and these.
abbrev in_numbers : Ranked → List ℕ
in_numbers r =
    r.unit.id ∷ r.unit.action ∷ r.unit.start ∷ r.unit.own ∷ r.unit.end ∷ r.depth ∷ r.rank ∷ []

abbrev pub told : Batch → List (List ℕ)
told b = (b.number ∷ b.offset ∷ length b.units ∷ []) ∷ map in_numbers b.units

-- A batch from the place of a start, and the one after it.
unfoldable pub two_of : List ℕ → ℕ → ℕ → List (List (List ℕ))
unfolding first_of batch_of
two_of s room again =
    let b : Batch = batch_of first s (first_of first s).place room in told b ∷ told (batch_of first s b.place again) ∷ []

-- The units of K2 behind its root: a template, its key and its field.
abbrev pub template : List ℕ
template = 5 ∷ 1 ∷ 6 ∷ 19 ∷ 46 ∷ 2 ∷ 0 ∷ []

abbrev pub key : List ℕ
key = 6 ∷ 0 ∷ 19 ∷ 29 ∷ 29 ∷ 3 ∷ 0 ∷ []

abbrev pub field : List ℕ
field = 8 ∷ 1 ∷ 29 ∷ 43 ∷ 46 ∷ 3 ∷ 1 ∷ []
