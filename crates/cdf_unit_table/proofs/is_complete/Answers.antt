-- Below 32 by computation; from there on both sides are false.
use Rattle.cdf_unit_table.specs.States.{complete, complete_states}
use Rattle.cdf_unit_table.proofs.Tests.{by_bit, not_member}
use Rattle.cdf_unit_table.proofs.is_complete.Goals as goal

pub returns : goal.returns
unfolding complete
returns c = by_bit _ complete tt (not_member complete_states 32 tt) c.args.state
