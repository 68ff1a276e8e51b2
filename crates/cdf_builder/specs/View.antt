-- Which place of document 01 a struct is, and what the answers say; the struct that holds only zeros.
use Rattle.std.specs.Prelude.{ℕ, List, Result, Ok, Err}
use Rattle.cdf_refusal.specs.Numbers.{number_of}
use Rattle.cdf_refusal.specs.declared.Refusal.{Refusal}
use Rattle.cdf_builder_spec.specs.Place.{BuilderPlace}
use Rattle.cdf_builder_spec.specs.Calls.{Reply, Decision, Finish}
use Rattle.cdf_builder_spec.specs.Slots.{no_units, place_of}
use Rattle.cdf_builder.specs.declared.Builder.{Builder}

abbrev pub view : Builder → BuilderPlace
view p = place_of p.written p.units.count p.units.top p.units.o1 p.units.o2 p.units.o3

-- The number and the place alone, and with the buffer as it then is. A refusal leaves the place that was given.
abbrev pub decision_of : Builder → Result Builder Refusal → Decision
decision_of p (Ok q) = record { number = 0; place = view q }
decision_of p (Err r) = record { number = number_of r; place = view p }

abbrev pub reply_of : Builder → Result Builder Refusal → List ℕ → Reply
reply_of p (Ok q) s = record { number = 0; place = view q; buffer = s }
reply_of p (Err r) s = record { number = number_of r; place = view p; buffer = s }

abbrev pub finished_of : Result ℕ Refusal → Finish
finished_of (Ok n) = record { number = 0; length = n }
finished_of (Err r) = record { number = number_of r; length = 0 }

-- The struct that a refused start leaves.
abbrev pub no_builder : Builder
no_builder = record { written = 0; units = no_units }
