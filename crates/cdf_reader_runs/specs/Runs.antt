-- Runs of the reader: a start and the nexts after it, each given the place that the last call returned.
use Rattle.std.specs.Prelude.{ℕ, zero, suc, cond, List, [], ◌∷◌, eqb}
use Rattle.cdf_unit_prefix.specs.Layout.{Layout}
use Rattle.cdf_unit_list.specs.Check.{Verdict}
use Rattle.cdf_unit_list.specs.declared.Ranked.{Ranked}
use Rattle.cdf_reader_spec.specs.Calls.{Reply, no_ranked, first_of, next_of}

-- The k-th answer, from 0: the start's, and then those of the nexts.
unfoldable pub reading : Layout → List ℕ → ℕ → Reply
unfolding first_of next_of
reading l s zero = first_of l s
reading l s (suc k) = next_of l s (reading l s k).place

-- What an answer tells besides the place.
pub record Outcome : Type 0 where
  pub number : ℕ
  pub offset : ℕ
  pub handed : Ranked

unfoldable pub outcome : Reply → Outcome
outcome r = record { number = r.number; offset = r.offset; handed = r.handed }

-- Past the last unit: the end, 1, where the check accepts, else the check's own number and offset.
unfoldable pub afterwards : Verdict → Outcome
afterwards a =
    cond (eqb a.number 0) (record { number = 1; offset = 0; handed = no_ranked })
    (record { number = a.number; offset = a.value; handed = no_ranked })

-- What is due of the k-th answer: 0 and the k-th of the units, with its depth and rank, and this ever after the last.
unfoldable pub due : Outcome → List Ranked → ℕ → Outcome
due last [] k = last
due last (u ∷ us) zero = record { number = 0; offset = 0; handed = u }
due last (u ∷ us) (suc k) = due last us k

-- How many of the first k answers hand out a unit.
unfoldable pub handed_out : Layout → List ℕ → ℕ → ℕ
unfolding reading
handed_out l s zero = 0
handed_out l s (suc k) = cond (eqb (reading l s k).number 0) (suc (handed_out l s k)) (handed_out l s k)
