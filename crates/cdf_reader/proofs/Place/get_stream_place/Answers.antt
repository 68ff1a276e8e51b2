-- The call by its name.
use Rattle.std.proofs.Common.{◌∙◌}
use Rattle.cdf_reader_spec.proofs.Replying.{take_named}
use Rattle.cdf_reader.proofs.Place.get_stream_place.Goals as goal

pub returns : goal.returns
returns c = c.call.ensures.is ∙ take_named _ _ _
