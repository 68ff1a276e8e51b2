-- Each return by its law (proofs/Calling): 11, 2, and else a step.
use Rattle.std.proofs.Common.{sym, ◌∙◌}
use Rattle.cdf_reader_next_c.proofs.Calling.{empty, no_fit, steps}
use Rattle.cdf_reader_next_c.proofs.cdf_next.Goals as goal

pub returns-then-place-eq0 : goal.returns-then-place-eq0
returns-then-place-eq0 c =
    let a = c.args in
    rw c.number.ensures (empty a.s.now a.place.now c.if-place-eq0.true)

pub returns-then-not-fits_at : goal.returns-then-not-fits_at
returns-then-not-fits_at c =
    let a = c.args in
    rw c.number-then-not-fits_at.ensures
    (no_fit a.s.now a.place.now c.if-place-eq0.false
    (rw c.edition_of-edition.ensures at (sym c.fits_at.ensures ∙ c.if-not-fits_at.true)))

pub returns : goal.returns
returns c =
    let a = c.args in
    steps a.s.now a.place.now
    (rw c.edition_of-edition.ensures at (sym c.fits_at.ensures ∙ c.if-not-fits_at.false)) _ _ _
    (rw c.edition_of-edition.ensures at c.step_at.ensures)
