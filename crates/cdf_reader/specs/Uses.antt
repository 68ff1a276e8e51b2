-- The place that goes with a refusal, and the one that PREVIOUS leaves.
use Rattle.std.specs.Prelude.{◌≡◌, Result, Ok, Err, ⊤}
use Rattle.cdf_refusal.specs.declared.Fault.{Fault}
use Rattle.cdf_reader_spec.specs.declared.Call.{Call}
use Rattle.cdf_reader_spec.specs.declared.Call.TheVariants.{Start, Next, Skip, GetStream, Previous}
use Rattle.cdf_reader.specs.View.{no_place}
use Rattle.cdf_reader.specs.declared.Place.{Place}
use Rattle.cdf_reader.specs.declared.Answer.{Answer}

-- A refused start leaves the empty place, any other refused call the place that it was given.
abbrev pub place_kept : Call → Place → Place
place_kept Start p = no_place
place_kept Next p = p
place_kept Skip p = p
place_kept GetStream p = p
place_kept Previous p = p

-- The call leaves the place that it was given, field by field.
abbrev pub Again : Place → Result Answer Fault → Type 0
Again p (Ok a) = a.place ≡ p
Again p (Err f) = ⊤
