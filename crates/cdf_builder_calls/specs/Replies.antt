-- What a call answers, told as the format's reply; the parts that hold only zeros.
use Rattle.std.specs.Prelude.{ℕ, List, Result, Ok, Err}
use Rattle.cdf_refusal.specs.Numbers.{number_of}
use Rattle.cdf_refusal.specs.declared.Refusal.{Refusal}
use Rattle.cdf_builder_spec.specs.Calls.{Reply}
use Rattle.cdf_builder_spec.specs.Slots.{no_units, placed}
use Rattle.cdf_builder_spec.specs.declared.Parts.{Parts}

-- The number and the place, with the buffer as it then is. A refusal leaves the place that was given.
abbrev pub reply_of : Parts → Result Parts Refusal → List ℕ → Reply
reply_of p (Ok q) s = record { number = 0; place = placed q; buffer = s }
reply_of p (Err r) s = record { number = number_of r; place = placed p; buffer = s }

-- What a refused start leaves.
abbrev pub no_parts : Parts
no_parts = record { written = 0; units = no_units }
