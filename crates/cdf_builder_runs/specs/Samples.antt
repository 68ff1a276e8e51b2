-- Runs of the builder that are computed: the units of K2, a list that is refused at its third unit, two that are refused at the
-- end, and a group after a call (01, "Samples").
use Rattle.std.specs.Prelude.{ℕ, zero, suc, List, [], ◌∷◌, ◌++◌}
use Rattle.cdf_unit_table.specs.Ids.{stream, call, er_group, template, temporary_key, field, relation, relation_key}
use Rattle.cdf_unit_prefix.specs.Layout.{Layout}
use Rattle.cdf_unit_prefix.specs.declared.Edition.TheVariants.{First}
use Rattle.cdf_unit_list.specs.Samples.{k2}
use Rattle.cdf_builder_spec.specs.Requests.{Request, unit, group}
use Rattle.cdf_builder_spec.specs.Calls.{Reply, start_of, call_of, Finish, finish_of}
use Rattle.cdf_builder_runs.specs.Runs.{answer, run}
use Rattle.cdf_builder_runs.specs.Building.{Building, layout, first, last, finish}

-- A buffer of n bytes, all 255.
unfoldable pub blank : ℕ → List ℕ
blank zero = []
blank (suc n) = 255 ∷ blank n

-- The numbers of a start and of the calls after it.
unfoldable pub numbers : Layout → Reply → List Request → List ℕ
unfolding call_of
numbers l a [] = a.number ∷ []
numbers l a (r ∷ rs) = a.number ∷ numbers l (answer l a r) rs

-- What is built comes to this: the numbers, what finish answers, and the buffer.
pub record Outcome : Type 0 where
  pub numbers : List ℕ
  pub finish : Finish
  pub buffer : List ℕ

abbrev outcome : List ℕ → ℕ → ℕ → List ℕ → Outcome
outcome ns n len buffer = record { numbers = ns; finish = record { number = n; length = len }; buffer = buffer }

-- A start with this id on a buffer of n bytes, and these calls.
unfoldable pub building : ℕ → ℕ → List Request → Outcome
unfolding numbers blank start_of run finish_of
building n id rs =
    let b : Building = record { edition = First; buffer = blank n; root = id; calls = rs } in
    record { numbers = numbers (layout b) (first b) rs; finish = finish b; buffer = (last b).buffer }

abbrev ask : ℕ → ℕ → List ℕ → Request
ask id action text = unit (record { id = id; action = action; text = text })

-- a template PERSON, its temporary key, and its field SURNAME
abbrev person : Request
person = ask template 1 (6 ∷ 0x50 ∷ 0x45 ∷ 0x52 ∷ 0x53 ∷ 0x4f ∷ 0x4e ∷ [])

abbrev key : Request
key = ask temporary_key 0 (0 ∷ 0 ∷ 0 ∷ 1 ∷ [])

abbrev surname : Request
surname = ask field 1 (7 ∷ 0x53 ∷ 0x55 ∷ 0x52 ∷ 0x4e ∷ 0x41 ∷ 0x4d ∷ 0x45 ∷ 0xc3 ∷ 0x85 ∷ 0x73 ∷ [])

-- a call MERGE
abbrev merge : Request
merge = ask call 0 (5 ∷ 0x4d ∷ 0x45 ∷ 0x52 ∷ 0x47 ∷ 0x45 ∷ [])

-- a relation and the first of its two keys
abbrev link : Request
link = ask relation 1 (0 ∷ 0 ∷ 0 ∷ 7 ∷ [])

abbrev source : Request
source = ask relation_key 0 (0 ∷ 0 ∷ 0 ∷ 8 ∷ [])

abbrev pub found : List Outcome
found =
    building 50 er_group (person ∷ key ∷ surname ∷ [])
    -- a field before a key; the key may follow
    ∷ building 50 er_group (person ∷ surname ∷ key ∷ [])
    -- no key at all
    ∷ building 20 er_group (person ∷ [])
    -- one key of two: the relation's length counts it
    ∷ building 30 er_group (link ∷ source ∷ [])
    -- a group whose bytes are given; a template after it has no place
    ∷ building 64 stream (merge ∷ group k2 ∷ person ∷ [])
    ∷ []

-- The bytes of two prefixes with their lengths, and of a template's name.
abbrev prefix : ℕ → ℕ → ℕ → List ℕ
prefix len action id = 0xcd ∷ 0xf1 ∷ 0 ∷ len ∷ action ∷ id ∷ []

abbrev name : List ℕ
name = 6 ∷ 0x50 ∷ 0x45 ∷ 0x52 ∷ 0x53 ∷ 0x4f ∷ 0x4e ∷ []

abbrev pub due : List Outcome
due =
    outcome (0 ∷ 0 ∷ 0 ∷ 0 ∷ []) 0 46 (k2 ++ blank 4)
    ∷ outcome (0 ∷ 0 ∷ 7 ∷ 0 ∷ []) 0 29
    (prefix 29 0 er_group ++ (prefix 23 1 template ++ (name ++ (prefix 10 0 temporary_key ++ (0 ∷ 0 ∷ 0 ∷ 1 ∷ blank 21)))))
    ∷ outcome (0 ∷ 0 ∷ []) 10 0 (prefix 19 0 er_group ++ (prefix 13 1 template ++ (name ++ blank 1)))
    ∷ outcome (0 ∷ 0 ∷ 0 ∷ []) 10 0
    (prefix 26 0 er_group ++ (prefix 20 1 relation ++ (0 ∷ 0 ∷ 0 ∷ 7 ∷ (prefix 10 0 relation_key ++ (0 ∷ 0 ∷ 0 ∷ 8 ∷ blank 4)))))
    ∷ outcome (0 ∷ 0 ∷ 0 ∷ 7 ∷ []) 0 64
    (prefix 64 0 stream ++ (prefix 12 0 call ++ ((5 ∷ 0x4d ∷ 0x45 ∷ 0x52 ∷ 0x47 ∷ 0x45 ∷ []) ++ k2)))
    ∷ []
