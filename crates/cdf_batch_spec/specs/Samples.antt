-- Lists that are computed, each after a start in the first edition: the units of K2, and lists that are refused.
use Rattle.std.specs.Prelude.{ℕ, zero, suc, List, [], ◌∷◌, ◌++◌}
use Rattle.cdf_unit_table.specs.Ids.{stream, call, er_group, template, temporary_key, field, file_group, line}
use Rattle.cdf_unit_table.specs.States.{er_data, template_fields, stream_group, er_new, file_lines}
use Rattle.cdf_unit_prefix.specs.Layout.{layout_of}
use Rattle.cdf_unit_prefix.specs.declared.Edition.TheVariants.{First}
use Rattle.cdf_unit_list.specs.Samples.{k2}
use Rattle.cdf_builder_spec.specs.declared.Begun.{Begun}
use Rattle.cdf_builder_spec.specs.Calls.{Reply, start_of}
use Rattle.cdf_builder_runs.specs.Samples.{blank}
use Rattle.cdf_batch_spec.specs.declared.UnitRequest.{UnitRequest}
use Rattle.cdf_batch_spec.specs.Batches.{Outcome, batch_of}

-- The text, of 28 bytes: MERGE from 0, PERSON from 6, a key's number from 13, and SURNAME with a value from 17, names with their counts.
abbrev words : List ℕ
words =
    5 ∷ 0x4d ∷ 0x45 ∷ 0x52 ∷ 0x47 ∷ 0x45
    ∷ 6 ∷ 0x50 ∷ 0x45 ∷ 0x52 ∷ 0x53 ∷ 0x4f ∷ 0x4e
    ∷ 0 ∷ 0 ∷ 0 ∷ 1
    ∷ 7 ∷ 0x53 ∷ 0x55 ∷ 0x52 ∷ 0x4e ∷ 0x41 ∷ 0x4d ∷ 0x45 ∷ 0xc3 ∷ 0x85 ∷ 0x73 ∷ []

abbrev ask : ℕ → ℕ → ℕ → ℕ → UnitRequest
ask id action begin end = record { id = id; action = action; begin = begin; end = end }

abbrev merge : UnitRequest
merge = ask call 0 0 6

abbrev person : UnitRequest
person = ask template 1 6 13

abbrev key : UnitRequest
key = ask temporary_key 0 13 17

abbrev surname : UnitRequest
surname = ask field 1 17 28

-- A start with this root on a buffer of n bytes, and a list after it.
abbrev begun : ℕ → ℕ → Reply
begun n root = start_of (layout_of First) (blank n) root

unfoldable pub tried : ℕ → ℕ → List UnitRequest → Outcome
unfolding start_of blank batch_of
tried n root rs = let a : Reply = begun n root in batch_of (layout_of First) a.buffer words a.place rs

-- It is built, and this is there then.
abbrev builds : ℕ → List Begun → List ℕ → Outcome
builds written units s = record { number = 0; rank = 0; place = record { written = written; units = units }; buffer = s }

-- It is refused, and all is as after the start.
unfoldable pub refuses : ℕ → ℕ → ℕ → ℕ → Outcome
unfolding start_of blank
refuses n root number rank =
    let a : Reply = begun n root in record { number = number; rank = rank; place = a.place; buffer = a.buffer }

abbrev open_unit : ℕ → ℕ → Begun
open_unit state at = record { state = state; start = at }

abbrev pub samples_found : List Outcome
samples_found =
    -- K2 at one go; the buffer has a byte too few
    tried 50 er_group (person ∷ key ∷ surname ∷ [])
    ∷ tried 45 er_group (person ∷ key ∷ surname ∷ [])
    -- refused at the third: a second temporary key
    ∷ tried 50 er_group (person ∷ key ∷ key ∷ surname ∷ [])
    -- bounds that cross: behind an unknown id, an id that has no place, an incomplete unit, a wrong action, and by themselves
    ∷ tried 50 er_group (person ∷ ask 15 1 17 13 ∷ [])
    ∷ tried 50 er_group (person ∷ ask line 0 17 13 ∷ [])
    ∷ tried 50 er_group (person ∷ ask template 1 17 13 ∷ [])
    ∷ tried 50 er_group (person ∷ ask temporary_key 1 17 13 ∷ [])
    ∷ tried 50 er_group (person ∷ ask temporary_key 0 17 13 ∷ [])
    -- before the room is asked for
    ∷ tried 6 er_group (ask template 1 13 6 ∷ [])
    -- an empty line at the text's end; one whose bounds cross, and one past the end
    ∷ tried 12 file_group (ask line 0 28 28 ∷ [])
    ∷ tried 12 file_group (ask line 0 28 27 ∷ [])
    ∷ tried 12 file_group (ask line 0 29 29 ∷ [])
    -- a unit that has no own data; the same with bounds past the text
    ∷ tried 24 stream (merge ∷ ask er_group 0 28 28 ∷ [])
    ∷ tried 24 stream (merge ∷ ask er_group 0 28 29 ∷ [])
    -- a buffer too short for its place, and an empty list
    ∷ tried 5 er_group []
    ∷ tried 6 file_group []
    ∷ []

-- The bytes of a prefix.
abbrev prefix : ℕ → ℕ → List ℕ
prefix len id = 0xcd ∷ 0xf1 ∷ 0 ∷ len ∷ 0 ∷ id ∷ []

abbrev pub samples_due : List Outcome
samples_due =
    builds 46 (open_unit template_fields 6 ∷ open_unit er_data 0 ∷ []) (k2 ++ blank 4)
    ∷ refuses 45 er_group 12 2
    ∷ refuses 50 er_group 7 2
    ∷ refuses 50 er_group 6 1
    ∷ refuses 50 er_group 7 1
    ∷ refuses 50 er_group 10 1
    ∷ refuses 50 er_group 8 1
    ∷ refuses 50 er_group 9 1
    ∷ refuses 6 er_group 9 0
    ∷ builds 12 (open_unit file_lines 0 ∷ []) (prefix 12 file_group ++ prefix 6 line)
    ∷ refuses 12 file_group 9 0
    ∷ refuses 12 file_group 9 0
    ∷ builds 24 (open_unit er_new 18 ∷ open_unit stream_group 0 ∷ [])
    (prefix 24 stream ++ (prefix 12 call ++ ((5 ∷ 0x4d ∷ 0x45 ∷ 0x52 ∷ 0x47 ∷ 0x45 ∷ []) ++ prefix 6 er_group)))
    ∷ refuses 24 stream 9 1
    ∷ refuses 5 er_group 2 0
    ∷ refuses 6 file_group 0 0
    ∷ []

-- So many requests for a unit that is not known.
unfoldable pub unknowns : ℕ → List UnitRequest
unknowns zero = []
unknowns (suc n) = ask 0 0 0 0 ∷ unknowns n

-- 512 and 513 of them at a place that fits, and 513 where it does not.
unfoldable pub many_found : List Outcome
unfolding tried unknowns
many_found = tried 6 er_group (unknowns 512) ∷ tried 6 er_group (unknowns 513) ∷ tried 5 er_group (unknowns 513) ∷ []

abbrev pub many_due : List Outcome
many_due = refuses 6 er_group 6 0 ∷ refuses 6 er_group 21 0 ∷ refuses 5 er_group 2 0 ∷ []
