-- The last bytes of a number as the library has them are the format's bytes of it.
use Rattle.std.proofs.Common.{◌≡◌, refl, sym, ap, ap₂, ◌∙◌, [], ◌∷◌, ◌++◌, ℕ, zero, suc, ◌-◌, ◌/◌, ◌%◌, ◌^◌, ◌≤◌, pow-suc, mul_comm, arith, take}
use Rattle.std.proofs.Common.{drop}
use native.Mathlib.Nat.{div-div-eq-div-mul}
use native.Mathlib.Numerals.{unary_clauses}
use lib.Seq.{take-length}
use Rattle.std.specs.Int.{byte_at, bytes_high_first, to_be_bytes, w64}
use Rattle.cdf_grammar.specs.Encoding.{bytes_of}
use Rattle.cdf_grammar.proofs.Numbers.{length_bytes_lem}

-- without its first ones
without : (j k n : ℕ) → drop j (bytes_high_first k n) ≡ bytes_high_first (k - j) n
without zero k n = simp unary_clauses refl
without (suc j) zero n = let none : 0 - suc j ≡ 0 = omega arith in rw none refl
without (suc j) (suc k) n = simp unary_clauses (without j k n)

next_byte : (k n : ℕ) → byte_at (suc k) n ≡ byte_at k (n / 256)
next_byte zero n = refl
next_byte (suc k) n =
    ap (λ m. n / m % 256) (pow-suc 256 (suc k) ∙ mul_comm (256 ^ suc k) 256) ∙ ap (λ m. m % 256) (sym (div-div-eq-div-mul n 256 (256 ^ suc k)))

last_apart : (k n : ℕ) → bytes_high_first (suc k) n ≡ bytes_high_first k (n / 256) ++ (n % 256 ∷ [])
last_apart zero n = refl
last_apart (suc k) n = ap₂ (λ b s. b ∷ s) (next_byte k n) (last_apart k n)

high_first : (k n : ℕ) → bytes_high_first k n ≡ bytes_of k n
unfolding bytes_of
high_first zero n = refl
high_first (suc k) n = last_apart k n ∙ ap (λ s. s ++ (n % 256 ∷ [])) (high_first k (n / 256))

pub last_bytes : (width n : ℕ) → width ≤ 8 → take (8 - (8 - width)) (drop (8 - width) (to_be_bytes w64 n)) ≡ bytes_of width n
last_bytes width n h =
    let same : 8 - (8 - width) ≡ width = omega arith in
    let all : take width (bytes_of width n) ≡ bytes_of width n = rw (length_bytes_lem width n) at (take-length (bytes_of width n)) in
    rw (without (8 - width) 8 n, same, high_first width n) all
