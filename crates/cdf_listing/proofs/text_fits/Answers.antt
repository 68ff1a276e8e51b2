-- Where not every text fits, the pass that only counts tells the length of this one.
use Rattle.std.proofs.Common.{ap, sym, ◌∙◌, zero-add, leb}
use Rattle.cdf_listing.proofs.Filled.{ample}
use Rattle.cdf_listing.proofs.text_fits.Goals as goal

pub returns-then-any_fits : goal.returns-then-any_fits
returns-then-any_fits c =
    sym (ample c.args.s.now c.args.room (sym c.any_fits.ensures ∙ c.if-any_fits.true))

pub returns : goal.returns
returns c =
    ap (λ n. leb n c.args.room) (c.put_listing-size.ensures.next ∙ zero-add _)
