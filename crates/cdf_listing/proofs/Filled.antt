-- A text and a buffer: whether there is room, and what the contract asks of a text that was put at the front.
use Rattle.std.proofs.Common.{ℕ, ◌≡◌, ◌∙◌, true, false, List, zero-add, arith, leb-true, le-leb, leb, length}
use Rattle.std.proofs.lemmas.List.Edits.{sets-eq}
use Rattle.cdf_unit_table.proofs.Bools.{both}
use Rattle.cdf_unit_prefix.specs.Layout.{layout_of}
use Rattle.cdf_unit_prefix.specs.declared.Edition.TheVariants.{First}
use Rattle.cdf_listing_spec.specs.Text.{listing_text}
use Rattle.cdf_listing_spec.specs.Claims.{room_by}
use Rattle.cdf_listing_spec.proofs.Proved.{proved}
use Rattle.cdf_listing_lines.specs.Put.{Put}
use Rattle.cdf_listing.specs.Written.{any_fits, written_of, buffer_of}

-- Where any text of so many bytes fits, this one does.
pub ample : (s : List ℕ) (room : ℕ) → any_fits (length s) room ≡ true → leb (length (listing_text (layout_of First) s)) room ≡ true
unfolding any_fits
ample s room e =
    let tests = both (leb (room_by (length s)) room) (leb 6 (length s)) e in
    let lines = leb-true (room_by (length s)) room tests.0 in
    le-leb _ room (omega (arith, lines, proved.roomy s (leb-true 6 (length s) tests.1)))

module _ (text buffer : List ℕ) where
  pub too_long : leb (length text) (length buffer) ≡ false →
      (record { number = 12; length = 0 } ≡ written_of text buffer) × (buffer ≡ buffer_of text buffer)
  unfolding written_of buffer_of
  too_long out = (rw out, rw out)

  pub filled : {after : List ℕ} {n : ℕ} → leb (length text) (length buffer) ≡ true → Put buffer 0 text after n →
      (record { number = 0; length = n } ≡ written_of text buffer) × (after ≡ buffer_of text buffer)
  unfolding written_of buffer_of
  filled {n = n} fit p =
      let h = leb-true (length text) (length buffer) fit in
      let all : n ≡ length text = omega arith in
      (rw (fit, all), rw fit (p.is ∙ rw zero-add at (sets-eq text buffer 0 (omega arith))))
