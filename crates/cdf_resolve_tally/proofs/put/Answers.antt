-- Past the end nothing is written.
use Rattle.std.proofs.Common.{sym}
use lib.Seq.{set_out}
use Rattle.cdf_resolve_tally.proofs.put.Goals as goal

pub returns-else-at-list : goal.returns-else-at-list
returns-else-at-list c = sym (set_out _ _ _ c.if-at-list.false)
