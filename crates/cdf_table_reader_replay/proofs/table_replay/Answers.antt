-- The constant is the table's list: one computation over all its entries.
use Rattle.std.proofs.Common.{refl}
use Rattle.cdf_table_reader_spec.specs.Table.{entries}
use Rattle.cdf_table_reader_replay.proofs.table_replay.Goals as goal

pub invariant_of-replay_by : goal.invariant_of-replay_by
unfolding entries
invariant_of-replay_by c = record { published = refl }
