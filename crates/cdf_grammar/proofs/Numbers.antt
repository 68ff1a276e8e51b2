-- Numbers as bytes: what was written is read, and what is read was written.
use Rattle.std.proofs.Common.{◌≡◌, refl, List, ◌∷◌, ◌++◌, append_assoc, ℕ, zero, suc, ◌+◌, ◌*◌, ◌/◌, ◌%◌, ◌^◌, ◌≤◌, ◌<◌, arith, pow-suc, length, take}
use Rattle.std.proofs.Common.{drop, get_or, length-append, length-drop, take-suc, get_or-drop, get_or-append-add}
use Rattle.std.proofs.lemmas.List.{get_or_at}
use Rattle.cdf_unit_prefix.specs.Layout.{number_at}
use Rattle.cdf_grammar.specs.Encoding.{bytes_of, Bytes}
use Rattle.cdf_grammar.proofs.Parts.{byte_at}

pub length_bytes_lem : (k n : ℕ) → length (bytes_of k n) ≡ k
unfolding bytes_of
length_bytes_lem zero n = refl
length_bytes_lem (suc k) n = simp (length-append, length_bytes_lem k (n / 256)) (omega arith)

-- Of bytes written after some and before others.
pub number_read : (k n : ℕ) (before more : List ℕ) → n < 256 ^ k →
    number_at k (length before) (before ++ (bytes_of k n ++ more)) ≡ n
unfolding bytes_of number_at
number_read zero n before more h = omega arith
number_read (suc k) n before more h =
    let low : n / 256 < 256 ^ k = omega (arith, pow-suc 256 k) in
    let last = get_or_at (bytes_of k (n / 256)) (n % 256) more 0 k (length_bytes_lem k (n / 256)) in
    rw (append_assoc, get_or-append-add, last, number_read k (n / 256) before (n % 256 ∷ more) low) (omega arith)

pub number_written : (k at : ℕ) (s : List ℕ) → Bytes s → at + k ≤ length s → take k (drop at s) ≡ bytes_of k (number_at k at s)
unfolding bytes_of number_at
number_written zero at s b h = refl
number_written (suc k) at s b h =
    let x = get_or s (at + k) 0 in
    let n = number_at k at s in
    let small = byte_at s b (at + k) in
    let high : (n * 256 + x) / 256 ≡ n = omega arith in
    let low : (n * 256 + x) % 256 ≡ x = omega arith in
    let room : k < length (drop at s) = simp length-drop (omega arith) in
    rw (high, low, take-suc (drop at s) k 0 room, get_or-drop at s k 0, number_written k at s b (omega arith))

pub number_below : (k at : ℕ) (s : List ℕ) → Bytes s → number_at k at s < 256 ^ k
unfolding number_at
number_below zero at s b = omega arith
number_below (suc k) at s b = omega (arith, pow-suc 256 k, number_below k at s b, byte_at s b (at + k))
