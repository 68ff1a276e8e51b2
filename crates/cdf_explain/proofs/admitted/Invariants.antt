-- The ids below the one in hand are in their entries.
use Rattle.cdf_explain.specs.Parts.{mays_at}
use Rattle.cdf_explain.proofs.Filling.{Filled}
use Rattle.cdf_explain.proofs.admitted.Given as goal

abbrev pub invariant-loop-id : goal.invariant-loop-id
invariant-loop-id l = Filled (mays_at l.count l.state) l.choices.ids l.choices.count l.id
