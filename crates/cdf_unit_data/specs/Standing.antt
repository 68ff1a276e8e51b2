-- What a row of name bytes says (02, e): any row, and 01's.
use Rattle.std.specs.Prelude.{ℕ, zero, suc, cond, not, List, [], ◌∷◌, eqb, get_or}
use Rattle.cdf_unit_data.specs.Data.{letter, name_byte, NameBytes}

-- Where a byte may stand in a name: 0 nowhere, 1 anywhere but first, 2 anywhere (02, e).
abbrev pub standing : ℕ → ℕ
standing b = cond (letter b) 2 (cond (name_byte b) 1 0)

-- This of so many bytes, from b on.
unfoldable pub standings : ℕ → ℕ → List ℕ
standings b zero = []
standings b (suc n) = standing b ∷ standings (suc b) n

-- The row: this of every byte.
unfoldable pub name_row : List ℕ
unfolding standings
name_row = standings 0 256

-- The bytes that a row lets stand in a name.
abbrev pub row_bytes : List ℕ → NameBytes
row_bytes row = record { first = λ b. eqb (get_or row b 0) 2; later = λ b. not (eqb (get_or row b 0) 0) }
