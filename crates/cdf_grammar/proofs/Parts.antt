-- Bytes and parts of them: each byte is below 256, also in a part, and what is left of a part is a part.
use Rattle.std.proofs.Common.{◌≡◌, List, [], ◌∷◌, ◌++◌, ℕ, zero, suc, ◌+◌, ◌-◌, ◌<◌, arith, take, drop, get_or, drop-drop}
use lib.Seq.{take-nil}
use Rattle.cdf_unit_table.proofs.Parts.{drop-take}
use Rattle.cdf_grammar.specs.Encoding.{Bytes}

pub byte_at : (s : List ℕ) → Bytes s → (i : ℕ) → get_or s i 0 < 256
byte_at [] b i = omega arith
byte_at (x ∷ s) b zero = b.0
byte_at (x ∷ s) b (suc i) = byte_at s b.1 i

pub part_bytes : (at n : ℕ) (s : List ℕ) → Bytes s → Bytes (take n (drop at s))
part_bytes zero zero s b = record {}
part_bytes zero (suc n) [] b = record {}
part_bytes zero (suc n) (x ∷ s) b = (b.0, part_bytes zero n s b.1)
part_bytes (suc at) n [] b = rw take-nil (record {})
part_bytes (suc at) n (x ∷ s) b = part_bytes at n s b.1

pub bytes_both : (s t : List ℕ) → Bytes (s ++ t) → Bytes s × Bytes t
bytes_both [] t b = (record {}, b)
bytes_both (x ∷ s) t b = let w = bytes_both s t b.1 in ((b.0, w.0), w.1)

pub part_left : (at n k : ℕ) (s : List ℕ) → drop k (take n (drop at s)) ≡ take (n - k) (drop (at + k) s)
part_left at n k s = rw (drop-take, drop-drop)
