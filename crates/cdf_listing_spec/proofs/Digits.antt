-- A number's digits: the one equation by which it is written, and how many there are.
use Rattle.std.proofs.Common.{ℕ, zero, suc, ◌+◌, ◌-◌, ◌*◌, ◌/◌, ◌%◌, ◌^◌, ◌≤◌, ◌<◌, ◌≡◌, refl, ◌∙◌, Bool, true, false, cond, List, [], ◌∷◌, ◌++◌}
use Rattle.std.proofs.Common.{pow-suc, arith, ltb-false, lt-ltb, le-ltb, ltb, length, length-append}
use Rattle.cdf_unit_table.proofs.Bools.{of_cond}
use Rattle.cdf_listing_spec.specs.Decimal.{digit, digits_by, decimal, read_from}

-- More fuel changes nothing.
fuelled : (a b n : ℕ) → n < a → n < b → digits_by a n ≡ digits_by b n
unfolding digits_by
fuelled zero b n p q = absurd (omega arith)
fuelled (suc a) zero n p q = absurd (omega arith)
fuelled (suc a) (suc b) n p q = go (ltb n 10) (λ ten. fuelled a b (n / 10) (omega arith) (omega arith)) refl
  where
    go : (t : Bool) → (10 ≤ n → digits_by a (n / 10) ≡ digits_by b (n / 10)) → ltb n 10 ≡ t →
        cond t (digit n) (digits_by a (n / 10) ++ digit (n % 10)) ≡ cond t (digit n) (digits_by b (n / 10) ++ digit (n % 10))
    go true same e = refl
    go false same e = rw (same (ltb-false n 10 e))

-- A number below ten is its digit; any other has the digits of its tenth part and then its last one.
decimal_is : (n : ℕ) → decimal n ≡ cond (ltb n 10) (digit n) (decimal (n / 10) ++ digit (n % 10))
unfolding decimal digits_by
decimal_is n = go (ltb n 10) refl
  where
    go : (t : Bool) → ltb n 10 ≡ t →
        cond t (digit n) (digits_by n (n / 10) ++ digit (n % 10)) ≡ cond t (digit n) (digits_by (suc (n / 10)) (n / 10) ++ digit (n % 10))
    go true e = refl
    go false e =
        let ten = ltb-false n 10 e in rw (fuelled n (suc (n / 10)) (n / 10) (omega arith) (omega arith))

pub decimal_digit : (n : ℕ) → n < 10 → decimal n ≡ digit n
decimal_digit n h = rw (decimal_is n, lt-ltb n 10 h)

pub decimal_more : (n : ℕ) → 10 ≤ n → decimal n ≡ decimal (n / 10) ++ digit (n % 10)
decimal_more n h = decimal_is n ∙ rw (le-ltb n 10 h)

-- A number below a power of ten has as many digits at most.
pub few_digits : (k n : ℕ) → n < 10 ^ suc k → length (decimal n) ≤ suc k
few_digits zero n h = rw (decimal_digit n h) (omega arith)
few_digits (suc k) n h =
    let rest = few_digits k (n / 10) (omega (arith, pow-suc 10 (suc k))) in
    rw decimal_is
    (of_cond (λ x. length x ≤ suc (suc k)) (ltb n 10) (digit n) (decimal (n / 10) ++ digit (n % 10)) (λ e. omega arith)
    (λ e. simp length-append (omega arith)))

-- By that any number n has at most n + 1 digits.
pub below_power : (n : ℕ) → n < 10 ^ suc n
below_power zero = omega arith
below_power (suc n) = let less = below_power n in omega (arith, pow-suc 10 (suc n))

read_digit : (ds : List ℕ) (high d : ℕ) → read_from high (ds ++ digit d) ≡ read_from high ds * 10 + d
unfolding read_from
read_digit [] high d = omega arith
read_digit (x ∷ ds) high d = read_digit ds (high * 10 + (x - 48)) d

read_by : (fuel n : ℕ) → n < fuel → read_from 0 (digits_by fuel n) ≡ n
unfolding read_from digits_by
read_by zero n h = absurd (omega arith)
read_by (suc fuel) n h = go (ltb n 10) refl (λ ten. read_by fuel (n / 10) (omega arith))
  where
    go : (t : Bool) → ltb n 10 ≡ t → (10 ≤ n → read_from 0 (digits_by fuel (n / 10)) ≡ n / 10) →
        read_from 0 (cond t (digit n) (digits_by fuel (n / 10) ++ digit (n % 10))) ≡ n
    go true e rest = omega arith
    go false e rest = rw (read_digit, rest (ltb-false n 10 e)) (omega arith)

pub read_back : (n : ℕ) → read_from 0 (decimal n) ≡ n
unfolding decimal
read_back n = read_by (suc n) n (omega arith)
