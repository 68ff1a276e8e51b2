-- By the format's row (proofs/Nexts).
use Rattle.std.proofs.Common.{◌∙◌}
use Rattle.cdf_unit_data.specs.Standing.{name_row}
use Rattle.cdf_reader_step.proofs.Nexts.{by_row}
use Rattle.cdf_reader_step.proofs.next_at.Goals as goal

pub returns : goal.returns
unfolding name_row
returns c = c.next_with.ensures ∙ by_row _ _ _
