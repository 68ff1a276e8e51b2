-- The text is put into the buffer once it is known to fit.
use Rattle.std.proofs.Common.{sym, ◌∙◌}
use Rattle.cdf_unit_prefix.specs.Layout.{layout_of}
use Rattle.cdf_unit_prefix.specs.declared.Edition.TheVariants.{First}
use Rattle.cdf_listing_spec.specs.Text.{listing_text}
use Rattle.cdf_listing.proofs.Filled.{too_long, filled}
use Rattle.cdf_listing.proofs.write_listing.Goals as goal

pub returns-then-not-text_fits : goal.returns-then-not-text_fits
returns-then-not-text_fits c =
    let all = too_long (listing_text (layout_of First) c.args.s.now) c.args.buffer.now
    (sym c.text_fits.ensures ∙ c.if-not-text_fits.true) in
    record { is = all.0; bytes = all.1 }

pub returns : goal.returns
returns c =
    let all = filled (listing_text (layout_of First) c.args.s.now) c.args.buffer.now
    (sym c.text_fits.ensures ∙ c.if-not-text_fits.false) c.put_listing.ensures in
    record { is = all.0; bytes = all.1 }
