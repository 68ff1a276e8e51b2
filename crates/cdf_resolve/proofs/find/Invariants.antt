-- What is found from here on is what is found.
use Rattle.std.specs.Prelude.{◌≡◌, drop, length}
use Rattle.cdf_unit_prefix.specs.Layout.{layout_for}
use Rattle.cdf_resolve.specs.Holding.{Lies, rank_in}
use Rattle.cdf_resolve.proofs.find.Given as goal

abbrev pub invariant-loop-t : goal.invariant-loop-t
invariant-loop-t l = record {
  lies : Lies (layout_for l.s) (length l.s) (drop l.t-index l.held);
  rest : rank_in (layout_for l.s) l.s l.u (drop l.t-index l.held) ≡ rank_in (layout_for l.s) l.s l.u l.held;
}
