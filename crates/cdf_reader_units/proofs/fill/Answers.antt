-- 11, 2, and else the run (proofs/Filling).
use Rattle.std.proofs.Common.{sym, ◌∙◌}
use Rattle.cdf_reader_units.proofs.Filling.{none_open, no_fit}
use Rattle.cdf_reader_units.proofs.fill.Goals as goal

pub returns-then-p-eq0 : goal.returns-then-p-eq0
returns-then-p-eq0 c = rw c.at.ensures (none_open _ _ _ c.if-p-eq0.true)

pub returns-then-not-is_fit : goal.returns-then-not-is_fit
returns-then-not-is_fit c =
    rw c.at-then-not-is_fit.ensures
    (no_fit _ _ _ c.if-p-eq0.false
    (rw (c.cursor.ensures, c.edition_of-edition.ensures) at (sym c.is_fit.ensures ∙ c.if-not-is_fit.true)))
