-- A start, NEXT and SKIP are not PREVIOUS.
use Rattle.std.proofs.Common.{◌≡◌, ap, sym, Bool, true, false, true≢false}
use Rattle.cdf_reader_spec.specs.declared.Call.{Call}
use Rattle.cdf_reader_spec.specs.declared.Call.TheVariants.{Start, Next, Skip, GetStream, Previous}

abbrev is_previous : Call → Bool
is_previous Start = false
is_previous Next = false
is_previous Skip = false
is_previous GetStream = false
is_previous Previous = true

pub start_other : {A : Type 0} → Start ≡ Previous → A
start_other e = absurd (true≢false (sym (ap is_previous e)))

pub next_other : {A : Type 0} → Next ≡ Previous → A
next_other e = absurd (true≢false (sym (ap is_previous e)))

pub skip_other : {A : Type 0} → Skip ≡ Previous → A
skip_other e = absurd (true≢false (sym (ap is_previous e)))
