-- What writing a listing into a buffer answers, and what the buffer holds then.
use Rattle.std.specs.Prelude.{ℕ, Bool, cond, ◌&&◌, List, ◌++◌, leb, length, drop, Result, Ok, Err}
use Rattle.cdf_listing_spec.specs.Claims.{room_by}
use Rattle.cdf_refusal.specs.declared.Refusal.{Refusal}
use Rattle.cdf_refusal.specs.Numbers.{number_of}

-- 0 and how many bytes were written, or 12 and none.
pub record Written : Type 0 where
  pub number : ℕ
  pub length : ℕ

-- What the code answers, in these numbers.
abbrev pub written_by : Result ℕ Refusal → Written
written_by (Ok n) = record { number = 0; length = n }
written_by (Err r) = record { number = number_of r; length = 0 }

-- There is room for the listing of any n bytes (claim roomy): then it need not be counted before it is written.
unfoldable pub any_fits : ℕ → ℕ → Bool
any_fits n room = leb (room_by n) room && leb 6 n

abbrev fits_in : List ℕ → List ℕ → Bool
fits_in text buffer = leb (length text) (length buffer)

-- 0 and the text's length, or 12 where there is no room for it.
unfoldable pub written_of : List ℕ → List ℕ → Written
written_of text buffer = cond (fits_in text buffer) (record { number = 0; length = length text }) (record { number = 12; length = 0 })

-- The text stands at the front, and every byte behind it stays; without room for all of it every byte does.
unfoldable pub buffer_of : List ℕ → List ℕ → List ℕ
buffer_of text buffer = cond (fits_in text buffer) (text ++ drop (length text) buffer) buffer
