-- The row is 01's.
use Rattle.std.proofs.Common.{refl}
use Rattle.cdf_unit_data.specs.Standing.{name_row}
use Rattle.cdf_reader_replay.proofs.replay.Goals as goal

pub invariant_of-replay_by : goal.invariant_of-replay_by
unfolding name_row
invariant_of-replay_by c = record { published = refl }
