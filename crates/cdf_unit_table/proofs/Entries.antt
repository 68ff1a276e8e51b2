-- The entries of an array, filled from the front.
use Rattle.std.proofs.Common.{ℕ, suc, ◌+◌, ◌-◌, ◌≤◌, ◌<◌, ◌≡◌, List, [], ◌∷◌, ◌++◌, arith, length, set, replicate, length-append}
use Rattle.std.proofs.lemmas.List.{length-replicate}
use lib.Seq.{set-append_seam, append_snoc}
use Rattle.cdf_unit_table.specs.Entries.{padded}

-- One number more.
pub pad_on : (n : ℕ) (xs : List ℕ) (a : ℕ) → length xs < n → set (padded n xs) (length xs) a ≡ padded n (xs ++ (a ∷ []))
pad_on n xs a h =
    let left = n - suc (length xs) in
    let some : n - length xs ≡ suc left = omega arith in
    let fewer : n - (length xs + 1) ≡ left = omega arith in
    rw (some, set-append_seam xs 0 (replicate left 0) a, length-append xs (a ∷ []), fewer, append_snoc xs a (replicate left 0))

-- What is n numbers once it is padded was no more before.
pub padded_few : (n : ℕ) (xs : List ℕ) → length (padded n xs) ≡ n → length xs ≤ n
padded_few n xs e = omega (arith, simp (length-append, length-replicate) at e)
