-- The claim of the text's length, and then that it was written whole.
use Rattle.std.proofs.Common.{arith}
use Rattle.cdf_unit_prefix.specs.Layout.{layout_of}
use Rattle.cdf_unit_prefix.specs.declared.Edition.TheVariants.{First}
use Rattle.cdf_listing_spec.specs.Text.{listing_text}
use Rattle.cdf_listing_spec.proofs.Proved.{proved}
use Rattle.cdf_listing_program.proofs.Fitted.{fitted}
use Rattle.cdf_listing_program.proofs.list.Goals as goal

pub returns : goal.returns
returns c =
    let written = c.write_listing in
    let whole = fitted (listing_text (layout_of First) c.args.s.now) c.args.text.now _ written.result _
    (omega (arith, proved.short c.args.s.now c.requires.0)) written.ensures.is written.ensures.bytes c.unwrap_or.ensures in
    record { counts = whole.0; is = whole.1 }
