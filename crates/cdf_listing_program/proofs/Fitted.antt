-- A text that fits was written whole.
use Rattle.std.proofs.Common.{◌≡◌, ℕ, ◌≤◌, List, length, take, refl, ap, ◌∙◌, arith, le-leb, length-append}
use Rattle.std.specs.Prelude.{Result, Ok, Err}
use Rattle.std.specs.Result.{result_unwrap_or}
use lib.Seq.{take-append_seam}
use Rattle.cdf_refusal.specs.declared.Refusal.{Refusal}
use Rattle.cdf_listing.specs.Written.{Written, written_by, written_of, buffer_of}

length_by : (r : Result ℕ Refusal) → result_unwrap_or r 0 ≡ (written_by r).length
length_by (Ok n) = refl
length_by (Err k) = refl

pub fitted : (text buffer after : List ℕ) (r : Result ℕ Refusal) (n : ℕ) → length text ≤ length buffer → written_by r ≡ written_of text buffer →
    after ≡ buffer_of text buffer → n ≡ result_unwrap_or r 0 →
    ((n ≤ length after) × (n ≡ length (take n after))) × (take n after ≡ text)
unfolding written_of buffer_of
fitted text buffer after r n h e f is =
    let whole : n ≡ (written_of text buffer).length = is ∙ length_by r ∙ ap (λ (w : Written). w.length) e in
    rw (whole, f, le-leb (length text) (length buffer) h, take-append_seam) ((simp length-append (omega arith), omega arith), refl)
