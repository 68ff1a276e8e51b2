-- A number in decimal, as ASCII bytes.
use Rattle.std.specs.Prelude.{ℕ, zero, suc, ◌+◌, ◌-◌, ◌*◌, ◌/◌, ◌%◌, cond, List, [], ◌∷◌, ◌++◌, ltb}

abbrev pub digit : ℕ → List ℕ
digit d = (48 + d) ∷ []

-- Without leading zeros, by fuel: the last digit stands behind those of the tenth part.
unfoldable pub digits_by : ℕ → ℕ → List ℕ
digits_by zero n = []
digits_by (suc fuel) n = cond (ltb n 10) (digit n) (digits_by fuel (n / 10) ++ digit (n % 10))

-- There is fuel for more digits than any number has.
unfoldable pub decimal : ℕ → List ℕ
decimal n = digits_by (suc n) n

-- The number that digits write, behind those that wrote `high`.
unfoldable pub read_from : ℕ → List ℕ → ℕ
read_from high [] = high
read_from high (d ∷ ds) = read_from (high * 10 + (d - 48)) ds
