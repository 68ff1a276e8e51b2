-- What a call that resolves tells, as an answer of the definitions: how many ranks are written, or a refusal.
use Rattle.std.specs.Prelude.{ℕ, Result, Ok, Err}
use Rattle.cdf_refusal.specs.Numbers.{number_of}
use Rattle.cdf_refusal.specs.declared.Fault.{Fault}
use Rattle.cdf_resolve_spec.specs.Resolve.{Resolved, refusal}

abbrev pub answer_of : Result ℕ Fault → Resolved
answer_of (Ok count) = record { number = 0; offset = 0; count = count }
answer_of (Err f) = refusal (number_of f.refusal) f.offset
