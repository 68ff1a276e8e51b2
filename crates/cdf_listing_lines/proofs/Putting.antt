-- Bytes put one behind the other.
use Rattle.std.proofs.Common.{ℕ, suc, ◌+◌, ◌<◌, ◌≡◌, refl, sym, List, [], ◌∷◌, ◌++◌, add-suc, add-zero, suc-add, add-one, arith, length, get_or, take}
use Rattle.std.proofs.Common.{length-append, take-suc}
use Rattle.std.proofs.lemmas.List.Edits.{sets}
use lib.Seq.{length-sets}
use Rattle.cdf_listing_lines.specs.Put.{Room, Put}

sets_append : (xs ys l : List ℕ) (at : ℕ) → sets l at (xs ++ ys) ≡ sets (sets l at xs) (at + length xs) ys
sets_append [] ys l at = rw add-zero
sets_append (x ∷ xs) ys l at = rw (add-suc, ← suc-add) (sets_append xs ys _ (suc at))

pub nothing_put : (l : List ℕ) (at : ℕ) → Put l at [] l at
nothing_put l at = record { is = refl; next = omega arith }

pub put_both : {l m r xs ys : List ℕ} {at behind end : ℕ} → Put l at xs m behind → Put m behind ys r end → Put l at (xs ++ ys) r end
put_both {l = l} {xs = xs} {ys = ys} {at = at} p q = record {
  is = rw (q.is, p.is, p.next) (sym (sets_append xs ys l at));
  next = simp length-append (omega arith);
}

-- The room for bytes and more behind them.
pub room_first : {xs : List ℕ} {at : ℕ} (ys : List ℕ) → Room at (xs ++ ys) → Room at xs
room_first ys h = record { held = omega (arith, simp length-append at h.held) }

pub room_then : {l m xs ys : List ℕ} {at behind : ℕ} → Put l at xs m behind → Room at (xs ++ ys) → Room behind ys
room_then p h = record { held = omega (arith, simp length-append at h.held) }

-- The buffer keeps its length.
pub put_length : {l m xs : List ℕ} {at behind : ℕ} → Put l at xs m behind → length m ≡ length l
put_length {l = l} {xs = xs} {at = at} p = rw p.is (length-sets l at xs)

-- One more byte of some.
pub put_more : (bs : List ℕ) (i : ℕ) → i < length bs → {l m r : List ℕ} {at behind end : ℕ} → Put l at (take i bs) m behind →
    Put m behind (get_or bs i 0 ∷ []) r end → Put l at (take (i + 1) bs) r end
put_more bs i less p q = rw (add-one, take-suc bs i 0) (put_both p q)
