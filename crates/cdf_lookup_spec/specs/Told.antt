-- What a call that looks up tells, as an answer of the definitions.
use Rattle.std.specs.Prelude.{ℕ, Result, Ok, Err}
use Rattle.cdf_refusal.specs.Numbers as refusals
use Rattle.cdf_refusal.specs.declared.Fault.{Fault}
use Rattle.cdf_lookup_spec.specs.Find.{Query, query, Lookup, refusal}
use Rattle.cdf_lookup_spec.specs.declared.Found.{Found}
use Rattle.cdf_lookup_spec.specs.declared.Query.{Query as Asked}
use Rattle.cdf_lookup_spec.specs.declared.Which.{Which}
use Rattle.cdf_lookup_spec.specs.declared.Which.TheVariants.{First, Second}

-- What is asked for, by the bytes that are lent.
abbrev pub query_of : Asked → Query
query_of q = query q.template.now q.key_id q.key.now q.field.now

-- The number of a stream.
abbrev pub number_of : Which → ℕ
number_of First = 1
number_of Second = 2

-- A value, and a refusal, which names no stream.
abbrev pub answer_of : Result Found Fault → Lookup
answer_of (Ok f) = record { number = 0; offset = 0; which = number_of f.which; start = f.start; size = f.size }
answer_of (Err f) = refusal (refusals.number_of f.refusal) f.offset
