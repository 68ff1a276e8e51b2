-- What the code's answers say.
use Rattle.std.specs.Prelude.{ℕ, ◌+◌, ◌-◌, ◌^◌, min, Result, Ok, Err}
use Rattle.cdf_refusal.specs.Numbers.{number_of}
use Rattle.cdf_refusal.specs.declared.Refusal.{Refusal}
use Rattle.cdf_refusal.specs.declared.Refusal.TheVariants.{Action as ActionRefused, OwnData}
use Rattle.cdf_refusal.specs.declared.Fault.{Fault as Refused}
use Rattle.cdf_unit_judge.specs.declared.BodyFault.{BodyFault}
use Rattle.cdf_unit_judge.specs.declared.BodyFault.TheVariants.{Action as BadAction, Data as BadData}
use Rattle.cdf_unit_judge.specs.declared.Admitted.{Admitted}
use Rattle.cdf_unit_judge.specs.Judge.{Body, Action, Data, Whole, Judged, Fault, Found}

abbrev pub bodied : Result ℕ BodyFault → Body
bodied (Ok k) = Whole k
bodied (Err BadAction) = Action
bodied (Err (BadData k)) = Data k

abbrev pub judged : Result Admitted Refused → Judged
judged (Ok u) = Found u.id u.action u.own u.length u.state
judged (Err f) = Fault (number_of f.refusal) f.offset

-- Where own data offend, from their start on.
abbrev pub byte_of : BodyFault → ℕ
byte_of BadAction = 0
byte_of (BadData k) = k

-- A unit that starts at the one offset and whose prefix ends at the other is refused so.
abbrev pub fault_of : ℕ → ℕ → BodyFault → Refused
fault_of start body BadAction = record { refusal = ActionRefused; offset = start }
fault_of start body (BadData k) = record { refusal = OwnData; offset = body + k }

-- The same wherever the two lie: where the sum is no offset of 64 bits, the last such offset.
abbrev pub told_at : ℕ → ℕ → BodyFault → Refused
told_at start body BadAction = record { refusal = ActionRefused; offset = start }
told_at start body (BadData k) = record { refusal = OwnData; offset = min (body + k) (2 ^ 64 - 1) }

-- The rule that is broken.
abbrev pub refusal_of : BodyFault → Refusal
refusal_of BadAction = ActionRefused
refusal_of (BadData k) = OwnData
