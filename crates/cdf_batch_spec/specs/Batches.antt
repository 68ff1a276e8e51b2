-- What a whole list answers (02, j): all are built or none.
use Rattle.std.specs.Prelude.{ℕ, suc, cond, not, List, [], ◌∷◌, map, length, ltb, eqb}
use Rattle.cdf_unit_prefix.specs.Layout.{Layout}
use Rattle.cdf_builder_spec.specs.Place.{BuilderPlace, fits}
use Rattle.cdf_builder_spec.specs.Calls.{Decision, Reply}
use Rattle.cdf_builder_runs.specs.Runs.{run}
use Rattle.cdf_batch_spec.specs.declared.UnitRequest.{UnitRequest}
use Rattle.cdf_batch_spec.specs.Asking.{asked, judged}

-- A number, and the rank of the request that it is of. Beside 0, 2 and 21 the rank is 0.
pub record Told : Type 0 where
  pub number : ℕ
  pub rank : ℕ

-- The first that is refused, each judged at the place that those before it lead to; k is the first one's rank. 0 where none is.
unfoldable pub first_refused : Layout → ℕ → List ℕ → BuilderPlace → ℕ → List UnitRequest → Told
unfolding judged
first_refused l n text p k [] = record { number = 0; rank = 0 }
first_refused l n text p k (r ∷ rs) =
    let d : Decision = judged l n text p r in
    cond (eqb d.number 0) (first_refused l n text d.place (suc k) rs) (record { number = d.number; rank = k })

-- 2 for a place that does not fit, 21 for more than 512 requests.
unfoldable pub told_of : Layout → ℕ → List ℕ → BuilderPlace → List UnitRequest → Told
unfolding fits first_refused
told_of l n text p rs =
    cond (not (fits l n p)) (record { number = 2; rank = 0 })
    (cond (ltb 512 (length rs)) (record { number = 21; rank = 0 }) (first_refused l n text p 0 rs))

-- Number and rank, the new place, and the buffer.
pub record Outcome : Type 0 where
  pub number : ℕ
  pub rank : ℕ
  pub place : BuilderPlace
  pub buffer : List ℕ

-- A reply from which the single calls go on.
abbrev pub from : BuilderPlace → List ℕ → Reply
from p s = record { number = 0; place = p; buffer = s }

-- The single calls of these requests, one after the other: what the last of them replies.
abbrev pub single_calls : Layout → List ℕ → List ℕ → BuilderPlace → List UnitRequest → Reply
single_calls l s text p rs = run l (from p s) (map (asked text) rs)

unfoldable pub batch_of : Layout → List ℕ → List ℕ → BuilderPlace → List UnitRequest → Outcome
unfolding told_of run
batch_of l s text p rs =
    let t : Told = told_of l (length s) text p rs in
    let last : Reply = cond (eqb t.number 0) (single_calls l s text p rs) (from p s) in
    record { number = t.number; rank = t.rank; place = last.place; buffer = last.buffer }
