-- The call by its name.
use Rattle.std.proofs.Common.{refl, ◌∙◌}
use Rattle.cdf_reader_spec.proofs.Replying.{previous_named}
use Rattle.cdf_reader.proofs.Place.previous.Goals as goal

pub returns : goal.returns
returns c = record { is = c.call.ensures.is ∙ previous_named _ _ _; kept = c.call.ensures.again refl }
