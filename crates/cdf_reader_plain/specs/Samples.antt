-- Runs over the samples K2, K12 and K6 (01, "Samples"): the calls after a start, and each answer written out.
use Rattle.std.specs.Prelude.{ℕ, List, [], ◌∷◌, set}
use Rattle.cdf_unit_list.specs.Samples.{k1}
use Rattle.cdf_unit_list.specs.declared.Ranked.{Ranked}
use Rattle.cdf_reader_spec.specs.Calls.{no_ranked, no_part}
use Rattle.cdf_reader_spec.specs.declared.Call.{Call}
use Rattle.cdf_reader_spec.specs.declared.Call.TheVariants.{Start, Next, Skip, GetStream, Previous}
use Rattle.cdf_reader_plain.specs.Calls.{Told, handing, taking, saying}

-- A unit, its depth and its rank.
abbrev unit : ℕ → ℕ → ℕ → ℕ → ℕ → ℕ → ℕ → Ranked
unit id action from own end depth rank =
    record { unit = record { id = id; action = action; start = from; own = own; end = end }; depth = depth; rank = rank }

-- of K2: the group, its template, and the template's key and field
abbrev pub group : Ranked
group = unit 4 0 0 6 46 1 0

abbrev pub template : Ranked
template = unit 5 1 6 19 46 2 0

abbrev pub key : Ranked
key = unit 6 0 19 29 29 3 0

abbrev pub field : Ranked
field = unit 8 1 29 43 46 3 1

-- 0, and that many bytes from a position on.
abbrev bytes : ℕ → ℕ → Told
bytes from size = taking (record { start = from; size = size })

-- Unit by unit to the end, the template skipped, and the group taken; a key, and what was passed, cannot be passed.
abbrev pub k2_calls : List Call
k2_calls =
    Previous ∷ Next ∷ Next ∷ Skip ∷ Next ∷ Next ∷ GetStream
    ∷ Start ∷ Next ∷ Skip ∷ Skip ∷ Previous ∷ Next
    ∷ Start ∷ GetStream ∷ Next ∷ Previous ∷ []

abbrev pub k2_answers : List Told
k2_answers =
    handing group ∷ handing group ∷ handing template ∷ handing key ∷ saying 11 ∷ handing field ∷ saying 1 ∷ saying 11
    ∷ handing group ∷ handing template ∷ saying 0 ∷ saying 11 ∷ handing template ∷ saying 1
    ∷ handing group ∷ bytes 0 46 ∷ saying 1 ∷ handing group ∷ []

-- of K12: the stream and its function call, in which there is nothing
abbrev pub stream : Ranked
stream = unit 1 0 0 6 18 1 0

abbrev pub call : Ranked
call = unit 2 0 6 18 18 2 0

-- The call is skipped past the end, and then the stream; neither is a group.
abbrev pub k12_calls : List Call
k12_calls =
    GetStream ∷ Next ∷ Next ∷ GetStream ∷ Skip ∷ Next ∷ Previous
    ∷ Start ∷ Skip ∷ Next ∷ Skip ∷ Previous ∷ []

abbrev pub k12_answers : List Told
k12_answers =
    handing stream ∷ saying 11 ∷ handing call ∷ saying 1 ∷ saying 11 ∷ saying 0 ∷ saying 1 ∷ handing call
    ∷ handing stream ∷ saying 0 ∷ saying 1 ∷ saying 11 ∷ handing stream ∷ []

-- K6: K1 with its line's length one too high, so that the line is damaged and the group is not
abbrev pub k6 : List ℕ
k6 = set k1 9 0x0b

abbrev file : Ranked
file = unit 13 0 0 6 16 1 0

-- 5 at the line.
abbrev at_line : Told
at_line = record { number = 5; offset = 6; part = no_part; handed = no_ranked }

-- The group is skipped and taken as if nothing were wrong in it.
abbrev pub k6_calls : List Call
k6_calls = Next ∷ Skip ∷ Next ∷ Start ∷ GetStream ∷ Next ∷ []

abbrev pub k6_answers : List Told
k6_answers = handing file ∷ at_line ∷ saying 0 ∷ saying 1 ∷ handing file ∷ bytes 0 16 ∷ saying 1 ∷ []
