-- The place past the unit (proofs/Passed).
use Rattle.std.proofs.Common.{ap, ◌∙◌}
use Rattle.cdf_unit_list.specs.Stack.{with_state}
use Rattle.cdf_reader_cursor.specs.Outcomes.{outcome_reply}
use Rattle.cdf_reader_cursor.proofs.Passed.{passed_is}
use Rattle.cdf_reader_cursor.proofs.pass.Goals as goal

pub returns : goal.returns
unfolding with_state
returns c = ap outcome_reply c.moved.ensures ∙ rw (passed_is, c.skipped_state.ensures)
