-- Runs of the table reader over samples of 01, with each answer written out.
use Rattle.std.specs.Prelude.{ℕ, List, [], ◌∷◌, map, set}
use Rattle.cdf_unit_prefix.specs.Layout.{layout_of}
use Rattle.cdf_unit_prefix.specs.declared.Edition.TheVariants.{First}
use Rattle.cdf_unit_list.specs.Samples.{k2}
use Rattle.cdf_unit_list.specs.declared.Ranked.{Ranked}
use Rattle.cdf_reader_spec.specs.Calls.{Reply, no_ranked, empty_place}
use Rattle.cdf_table_reader_spec.specs.Table.{entries}
use Rattle.cdf_table_reader_spec.specs.Runs.{Shared, start, next, skip, table_run}

-- What is told of an answer: its number and offset, and the unit.
pub record Said : Type 0 where
  pub number : ℕ
  pub offset : ℕ
  pub handed : Ranked

abbrev said : Reply → Said
said r = record { number = r.number; offset = r.offset; handed = r.handed }

unfoldable pub tells : List ℕ → List Shared → List Said
unfolding table_run entries
tells s calls = map said (table_run entries (layout_of First) s empty_place calls)

-- A unit with its depth and rank, and a number with its offset.
abbrev unit : ℕ → ℕ → ℕ → ℕ → ℕ → ℕ → ℕ → Said
unit id action from own end depth rank = record {
  number = 0;
  offset = 0;
  handed = record { unit = record { id = id; action = action; start = from; own = own; end = end }; depth = depth; rank = rank };
}

abbrev only : ℕ → ℕ → Said
only n at = record { number = n; offset = at; handed = no_ranked }

abbrev group : Said
group = unit 4 0 0 6 46 1 0

abbrev template : Said
template = unit 5 1 6 19 46 2 0

abbrev key : Said
key = unit 6 0 19 29 29 3 0

-- K2, unit by unit, and anew with its template skipped.
abbrev pub k2_calls : List Shared
k2_calls = start ∷ next ∷ next ∷ skip ∷ next ∷ next ∷ start ∷ next ∷ skip ∷ skip ∷ next ∷ []

abbrev pub k2_due : List Said
k2_due =
    group ∷ template ∷ key ∷ only 11 0 ∷ unit 8 1 29 43 46 3 1 ∷ only 1 0
    ∷ group ∷ template ∷ only 0 0 ∷ only 11 0 ∷ only 1 0 ∷ []

-- K8: the template ends with its key, and a field stands in the group.
abbrev pub k8 : List ℕ
k8 = set k2 9 0x17

abbrev pub k8_calls : List Shared
k8_calls = start ∷ next ∷ next ∷ next ∷ next ∷ []

abbrev pub k8_due : List Said
k8_due = group ∷ unit 5 1 6 19 29 2 0 ∷ key ∷ only 7 29 ∷ only 7 29 ∷ []

-- K4: a file data group without a line.
abbrev pub k4_calls : List Shared
k4_calls = start ∷ next ∷ []

abbrev pub k4_due : List Said
k4_due = unit 13 0 0 6 6 1 0 ∷ only 10 0 ∷ []
