-- The rest of the pass, from where the loop stands, comes to what the whole does.
use Rattle.std.proofs.Common.{◌≡◌, drop}
use Rattle.cdf_unit_prefix.specs.Layout.{layout_of}
use Rattle.cdf_unit_prefix.specs.declared.Edition.TheVariants.{First}
use Rattle.cdf_batch_turn.specs.Numbers.{viewed}
use Rattle.cdf_batch_turn.specs.Passes.{writes, going, pass_of}
use Rattle.cdf_batch.proofs.run_all.Given as goal

abbrev pub invariant-loop-rank : goal.invariant-loop-rank
invariant-loop-rank l =
    pass_of (layout_of First) l.text (going (writes l.pass) (viewed l.place) l.buffer) l.rank-counter (drop l.rank-counter l.list)
    ≡ pass_of (layout_of First) l.fn.text (going (writes l.fn.pass) (viewed l.fn.start) l.fn.buffer) 0 l.fn.list
