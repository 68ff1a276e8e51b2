-- The bytes that are copied so far, and a part that is copied next.
use Rattle.std.proofs.Common.{◌≡◌, refl, ap, ◌∙◌, List, ◌++◌, append_assoc, ℕ, ◌+◌, ◌-◌, ◌≤◌, ◌<◌, arith, length, take, drop, get_or, set}
use Rattle.std.proofs.Common.{length-append, length-take, length-drop, drop-cons, drop-drop}
use Rattle.std.proofs.lemmas.List.{take-append-le}
use native.Mathlib.Numerals.{add-one}
use lib.Seq.{take-length, take-take, take-add, length-take-le, drop-append-add, set_split}
use borrow.Rule.Slice.PartMut.{put_mid}
use Rattle.cdf_unit_table.proofs.Parts.{rest}
use Rattle.cdf_builder_copy.proofs.Lent.{lent}

-- The first i bytes are copied.
pub record Copied (tail₀ bytes tail : List ℕ) (i : ℕ) : Type 0 where
  pub within : i ≤ length bytes
  pub is : tail ≡ take i bytes ++ drop i tail₀
  pub long : length tail ≡ length tail₀

-- Then k from j on: none is left out before them, and what was copied ends within them.
pub copied_part : {tail₀ bytes tail : List ℕ} {i : ℕ} (j k : ℕ) → Copied tail₀ bytes tail i → j ≤ i → i ≤ j + k → j + k ≤ length bytes →
    length bytes ≤ length tail₀ → (new : List ℕ) → new ≡ take j tail ++ (take k (drop j bytes) ++ drop (j + k) tail) →
    Copied tail₀ bytes new (j + k)
copied_part {tail₀} {bytes} {tail} {i} j k f h few end room new is =
    let front = take i bytes in
    let short : length front ≡ i = length-take-le i bytes f.within in
    let m = j + k - i in
    let sum : j + k ≡ length front + m = omega arith in
    let sum' : i + m ≡ j + k = omega arith in
    let before : take j tail ≡ take j bytes =
    ap (take j) f.is ∙ take-append-le j front (drop i tail₀) (omega arith) ∙ take-take j i bytes h in
    let behind : drop (j + k) tail ≡ drop (j + k) tail₀ =
    ap (drop (j + k)) f.is ∙ ap (λ (n : ℕ). drop n (front ++ drop i tail₀)) sum ∙ drop-append-add front (drop i tail₀) m
    ∙ drop-drop m i tail₀ ∙ ap (λ (n : ℕ). drop n tail₀) sum' in
    let all : new ≡ take (j + k) bytes ++ drop (j + k) tail₀ = rw (is, before, behind, take-add j k bytes) (simp append_assoc) in
    record {
      within = end;
      is = all;
      long = rw all (simp (length-append, length-take, length-drop) (omega arith));
    }

-- The same where both are lent from there on.
pub copied_lent : {tail₀ bytes tail : List ℕ} {i : ℕ} (j k : ℕ) → Copied tail₀ bytes tail i → j ≤ i → i ≤ j + k → j + k ≤ length bytes →
    length bytes ≤ length tail₀ → (back : List ℕ) →
    back ≡ take k (take (length bytes - j) (drop j bytes)) ++ drop k (take (length tail - j) (drop j tail)) →
    Copied tail₀ bytes (put_mid j (length tail - j) tail back) (j + k)
copied_lent {tail₀} {bytes} {tail} {i} j k f h few end room back is =
    copied_part j k f h few end room _ (lent j k (take k (drop j bytes)) tail back (rw (rest j bytes) at is))

pub copied_all : {tail₀ bytes tail : List ℕ} {i : ℕ} → Copied tail₀ bytes tail i → length bytes ≤ i →
    tail ≡ bytes ++ drop (length bytes) tail₀
copied_all {tail₀} {bytes} {tail} {i} f h =
    let within = f.within in
    let e : i ≡ length bytes = omega arith in
    rw (e, take-length) at f.is

-- One more.
pub copied_one : {tail₀ bytes tail : List ℕ} {i : ℕ} → Copied tail₀ bytes tail i → i < length bytes → length bytes ≤ length tail₀ →
    Copied tail₀ bytes (set tail i (get_or bytes i 0)) (i + 1)
copied_one {tail₀} {bytes} {tail} {i} f h room =
    let long = f.long in
    copied_part i 1 f (omega arith) (omega arith) (omega arith) room _
    (set_split tail i (get_or bytes i 0) (omega arith) ∙ rw (drop-cons bytes i 0 (omega arith), add-one) refl)
