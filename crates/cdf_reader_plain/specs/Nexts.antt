-- What is due of a start and NEXTs, as answers of a run.
use Rattle.std.specs.Prelude.{ℕ, zero, suc, cond, List, [], ◌∷◌, eqb}
use Rattle.cdf_unit_list.specs.Check.{Verdict}
use Rattle.cdf_unit_list.specs.declared.Ranked.{Ranked}
use Rattle.cdf_reader_spec.specs.Calls.{no_part}
use Rattle.cdf_reader_runs.specs.Runs.{Outcome, afterwards}
use Rattle.cdf_reader_plain.specs.Calls.{Told, handing}

-- The first n answers where these units are handed out and then this one is given for ever.
unfoldable pub handing_all : ℕ → List Ranked → Told → List Told
handing_all zero us ever = []
handing_all (suc n) [] ever = ever ∷ handing_all n [] ever
handing_all (suc n) (u ∷ us) ever = handing u ∷ handing_all n us ever

-- An outcome as an answer of a run: no part is taken.
abbrev pub partless : Outcome → Told
partless o = record { number = o.number; offset = o.offset; part = no_part; handed = o.handed }

-- Past the unit list: the end, 1, where the check accepts, else the check's own number and offset.
abbrev pub ever_after : Verdict → Told
ever_after a = partless (afterwards a)

-- How many of the answers are 0.
unfoldable pub zeros : List Told → ℕ
zeros [] = 0
zeros (t ∷ ts) = cond (eqb t.number 0) (suc (zeros ts)) (zeros ts)
