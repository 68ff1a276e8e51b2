-- By whether a unit is entered.
use Rattle.std.proofs.Common.{ne_eqb, sym, ◌∙◌}
use Rattle.cdf_unit_table.proofs.Options.{none_told, some_told}
use Rattle.cdf_batch_turn.proofs.is_crowded.Goals as goal

pub returns-in-None : goal.returns-in-None
returns-in-None c = λ k is. rw (none_told k (sym is ∙ c.in-None.is))

pub returns-in-Some : goal.returns-in-Some
returns-in-Some c = λ k is. let w = some_told k _ (sym is ∙ c.in-Some.is) in rw (ne_eqb k 0 (λ z. w.1 (w.0 ∙ z)))
