-- What is claimed of the listing's text. The term of this record stands in proofs/Proved.
use Rattle.std.specs.Prelude.{ℕ, ◌+◌, ◌*◌, ◌/◌, ◌≤◌, ◌≡◌, List, [], ◌∷◌, length, set}
use Rattle.cdf_unit_prefix.specs.Layout.{layout_of}
use Rattle.cdf_unit_prefix.specs.declared.Edition.TheVariants.{First}
use Rattle.cdf_unit_list.specs.Samples.{k1}
use Rattle.cdf_listing_spec.specs.Decimal.{decimal, read_from}
use Rattle.cdf_listing_spec.specs.Text.{listing_text}

-- The program's buffer: 10,922 lines of 19 bytes, and `ok 10922` with its line feed.
abbrev pub text_room : ℕ
text_room = 207527

-- Room by the bytes there are: a line of 19 bytes for every six of them, and the last line. At 65,536 it is text_room.
abbrev pub room_by : ℕ → ℕ
room_by n = 19 * (n / 6) + 9

pub record Claims : Type 0 where
  -- Any number is read back from its digits.
  pub read_back : (n : ℕ) → read_from 0 (decimal n) ≡ n
  -- The three lines of K1: `0 1 13 0 16`, `6 2 14 0 10` and `ok 2`.
  pub k1_text : listing_text (layout_of First) k1
      ≡ 0x30 ∷ 32 ∷ 0x31 ∷ 32 ∷ 0x31 ∷ 0x33 ∷ 32 ∷ 0x30 ∷ 32 ∷ 0x31 ∷ 0x36 ∷ 10
      ∷ 0x36 ∷ 32 ∷ 0x32 ∷ 32 ∷ 0x31 ∷ 0x34 ∷ 32 ∷ 0x30 ∷ 32 ∷ 0x31 ∷ 0x30 ∷ 10
      ∷ 0x6f ∷ 0x6b ∷ 32 ∷ 0x32 ∷ 10 ∷ []
  -- The one line of K6: `refused 5 at 6`.
  pub k6_text : listing_text (layout_of First) (set k1 9 0x0b)
      ≡ 0x72 ∷ 0x65 ∷ 0x66 ∷ 0x75 ∷ 0x73 ∷ 0x65 ∷ 0x64 ∷ 32 ∷ 0x35 ∷ 32 ∷ 0x61 ∷ 0x74 ∷ 32 ∷ 0x36 ∷ 10 ∷ []
  -- The text of any 65,536 bytes, or fewer, fits the program's buffer.
  pub short : (s : List ℕ) → length s ≤ 65536 → length (listing_text (layout_of First) s) ≤ text_room
  -- That room goes by the number of the bytes,
  pub same_room : room_by 65536 ≡ text_room
  -- and the text of any six of them, or more, fits the room that goes by it. (Of fewer it is a refusal of 15 bytes.)
  pub roomy : (s : List ℕ) → 6 ≤ length s → length (listing_text (layout_of First) s) ≤ room_by (length s)
