-- A tail that is lent, and when it is back with new bytes at its front.
use Rattle.std.proofs.Common.{◌≡◌, List, [], ◌++◌, append-nil, ℕ, ◌+◌, ◌-◌, ◌≤◌, arith, length, take, drop, length-drop, drop_of_length-le, drop-drop}
use borrow.Rule.Slice.PartMut.{put_mid}
use Rattle.cdf_unit_table.proofs.Parts.{rest}

-- So many bytes are there from a position on.
pub enough : (at n : ℕ) (s : List ℕ) → at + n ≤ length s → n ≤ length (take (length s - at) (drop at s))
enough at n s h = rw (rest, length-drop) (omega arith)

module _ (at n : ℕ) (new s tail : List ℕ) (is : tail ≡ new ++ drop n (take (length s - at) (drop at s))) where
  pub lent : put_mid at (length s - at) s tail ≡ take at s ++ (new ++ drop (at + n) s)
  lent =
      let few : length (drop at s) ≤ length s - at = simp length-drop (omega arith) in
      let none : drop (length s - at) (drop at s) ≡ [] = drop_of_length-le (drop at s) few in
      rw (none, append-nil, is, rest, drop-drop)
