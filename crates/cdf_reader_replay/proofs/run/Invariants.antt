-- The loop keeps `Running` (cdf_reader_replay_spec/proofs/Replaying) of the codes as the reader hears them.
use Rattle.std.proofs.Common.{map}
use Rattle.cdf_reader_replay_spec.proofs.Replaying.{Running}
use Rattle.cdf_reader_replay.proofs.run.Given as goal

abbrev pub invariant-loop-k : goal.invariant-loop-k
invariant-loop-k g l = Running l.s (map g.T.Turns.heard l.calls) l.initial.log l.log l.c l.k
