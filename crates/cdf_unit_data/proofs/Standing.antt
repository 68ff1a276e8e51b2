-- What the row says of each byte.
use Rattle.std.proofs.Common.{ℕ, zero, suc, ◌+◌, ◌<◌, ◌≡◌, refl, ◌∙◌, Bool, true, false, cond, not, ◌&&◌, ◌||◌, List, arith, suc-add, add-suc}
use Rattle.std.proofs.Common.{add-zero, zero-add, ltb-true, ltb-false, ne_eqb, eqb, leb, ltb, get_or}
use Rattle.std.proofs.lemmas.Bool.{lt-leb}
use lib.ListN.{get_or-eq_default}
use Rattle.cdf_unit_data.specs.Data.{letter, name_byte, name_bytes}
use Rattle.cdf_unit_data.specs.Standing.{standing, standings, name_row, row_bytes}

standing_at : (b n k : ℕ) → k < n → get_or (standings b n) k 0 ≡ standing (b + k)
unfolding standings
standing_at b zero k h = absurd (omega arith)
standing_at b (suc n) zero h = rw (add-zero b)
standing_at b (suc n) (suc k) h = standing_at (suc b) n k (omega arith) ∙ rw (suc-add b k, add-suc b k)

letter_is : (b : ℕ) → eqb (standing b) 2 ≡ letter b
letter_is b = go (letter b) (name_byte b)
  where
    go : (x y : Bool) → eqb (cond x 2 (cond y 1 0)) 2 ≡ x
    go true y = refl
    go false true = refl
    go false false = refl

name_byte_is : (b : ℕ) → not (eqb (standing b) 0) ≡ name_byte b
name_byte_is b = go (letter b) ((leb 48 b && leb b 57) || eqb b 95)
  where
    go : (x y : Bool) → not (eqb (cond x 2 (cond (x || y) 1 0)) 0) ≡ (x || y)
    go true y = refl
    go false true = refl
    go false false = refl

-- one look, at any number: behind the row's end it is none that may stand in a name
look : (b : ℕ) → get_or name_row b 0 ≡ standing b
unfolding name_row
look b = go (ltb b 256) refl
  where
    none : (x y : Bool) → ◌≡◌ {A = ℕ} 0 (cond (x && false) 2 (cond ((x && false) || ((y && false) || false)) 1 0))
    none true true = refl
    none true false = refl
    none false true = refl
    none false false = refl

    go : (t : Bool) → ltb b 256 ≡ t → get_or (standings 0 256) b 0 ≡ standing b
    go true e = standing_at 0 256 b (ltb-true b 256 e) ∙ rw (zero-add b)
    go false e =
        let high = ltb-false b 256 e in
        get_or-eq_default (standings 0 256) 0 high
        ∙ rw (lt-leb b 90 (omega arith), lt-leb b 57 (omega arith), ne_eqb b 95 (omega arith)) (none (leb 65 b) (leb 48 b))

-- So the bytes that 01's row lets stand in a name are 01's.
row_first : (b : ℕ) → (row_bytes name_row).first b ≡ letter b
row_first b = rw (look b) (letter_is b)

row_later : (b : ℕ) → (row_bytes name_row).later b ≡ name_byte b
row_later b = rw (look b) (name_byte_is b)

pub row_is : (row : List ℕ) → row ≡ name_row → row_bytes row ≡ name_bytes
row_is row e = rw e (λ i. record { first = λ b. row_first b i; later = λ b. row_later b i })
