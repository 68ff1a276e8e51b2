-- The plain reader answers with 0, 1 or 11.
use Rattle.std.proofs.Common.{ℕ, zero, suc, ◌<◌, Bool, ◌&&◌, List, [], ◌∷◌, arith}
use Rattle.cdf_unit_table.specs.States.{opens}
use Rattle.cdf_unit_table.proofs.Bools.{of_cond}
use Rattle.cdf_unit_list.specs.declared.Ranked.{Ranked}
use Rattle.cdf_reader_spec.specs.Calls.{Part, is_group, no_part}
use Rattle.cdf_reader_spec.specs.declared.Call.{Call}
use Rattle.cdf_reader_spec.specs.declared.Call.TheVariants.{Start, Next, Skip, GetStream, Previous}
use Rattle.cdf_reader_plain.specs.Plain.{State, fresh_at, Turn, followers, hand_out, span_of, plain_answer}
use Rattle.cdf_reader_plain.specs.Runs.{plain_from, plain_run, number_at}
use Rattle.cdf_reader_plain.proofs.Equations.{pass, plain_none, plain_on, plain_is}

-- A number that is not one from 2 to 10.
abbrev pub Apart : ℕ → Type 0
Apart n = 1 < n → 10 < n

-- Handing out a unit and passing one give such a number, and so does every call.
hand_apart : (st : State) (us : List Ranked) → Apart (hand_out st us).told.number
unfolding hand_out
hand_apart st [] = λ h. absurd (omega arith)
hand_apart st (u ∷ us) = λ h. absurd (omega arith)

pass_apart : (may : Bool) (part : Part) (st : State) → Apart (pass may part st).told.number
pass_apart may part st =
    of_cond (λ (t : Turn). Apart t.told.number) may _ _ (λ e h. absurd (omega arith)) (λ e h. omega arith)

module _ (first : Ranked) (rest : List Ranked) where
  answer_apart : (st : State) (c : Call) → Apart (plain_answer first rest st c).told.number
  unfolding plain_answer
  answer_apart st Start = λ h. absurd (omega arith)
  answer_apart st Next = hand_apart st (followers (first ∷ rest) st)
  answer_apart st Skip = pass_apart (st.fresh && opens st.unit.unit.id) no_part st
  answer_apart st GetStream = pass_apart (st.fresh && is_group st.unit.unit.id) (span_of st.unit.unit) st
  answer_apart st Previous = λ h. absurd (omega arith)

  -- So does each call of a run.
  from_apart : (cs : List Call) (st : State) (k : ℕ) → Apart (number_at k (plain_from first rest st cs))
  from_apart [] st k = rw plain_none (λ h. absurd (omega arith))
  from_apart (c ∷ cs) st zero = rw plain_on (answer_apart st c)
  from_apart (c ∷ cs) st (suc k) = rw plain_on (from_apart cs (plain_answer first rest st c).state k)

  pub run_apart : (cs : List Call) (k : ℕ) → Apart (number_at k (plain_run first rest cs))
  run_apart cs zero = rw plain_is (λ h. absurd (omega arith))
  run_apart cs (suc k) = rw plain_is (from_apart cs (fresh_at first rest) k)
