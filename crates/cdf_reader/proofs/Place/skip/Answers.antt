-- The call by its name.
use Rattle.std.proofs.Common.{◌∙◌}
use Rattle.cdf_reader_spec.proofs.Replying.{skip_named}
use Rattle.cdf_reader.proofs.Place.skip.Goals as goal

pub returns : goal.returns
returns c = c.call.ensures.is ∙ skip_named _ _ _
