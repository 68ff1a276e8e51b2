-- The byte that a broken name names is the first that offends: bytes that agree up to it are broken there too, and with letters from
-- it on the name is right.
use Rattle.std.proofs.Common.{ℕ, zero, suc, ◌+◌, ◌-◌, ◌≤◌, ◌<◌, ◌≡◌, refl, sym, ap, ◌∙◌, Bool, true, false, cond, ◌&&◌, List, [], ◌∷◌, ◌++◌, ◌⊎◌, inl}
use Rattle.std.proofs.Common.{inr, arith, leb-true, eqb-true, eq-eqb, leb, eqb, length, take, replicate, length-append, length-take}
use Rattle.std.proofs.lemmas.Bool.{false≢true, eqb-false}
use Rattle.std.proofs.lemmas.List.{length-replicate}
use Rattle.cdf_unit_table.proofs.Bools.{both, clash}
use Rattle.cdf_unit_data.specs.Data.{letter, name_byte, name_bytes, run_by, front_by, name_by, name_run, name_front, spelled, name_of}
use Rattle.cdf_unit_data.specs.Claims.{Agree, Named, lettered}
use Rattle.std.specs.Prelude.{Ok, Err}
use Rattle.cdf_unit_data.proofs.Names.{front_short}

-- One more byte in front, which may stand where it does (`p`) or not.
abbrev more : Bool → ℕ → ℕ
more p r = cond p (suc r) 0

-- If bytes agree up to the first that may not stand there, it is the first in both.
more_agrees : (p : Bool) (n r q : ℕ) (x y : List ℕ) → more p r < suc n → take (more p r) y ≡ take (more p r) x →
    (r < n → take (suc r) y ≡ take (suc r) x → q ≡ r) → more p q ≡ more p r
more_agrees true n r q x y h e on = ap suc (on (omega arith) e)
more_agrees false n r q x y h e on = refl

run_agrees : (n : ℕ) (x y : List ℕ) → n ≤ length x → name_run (take n x) < n →
    take (suc (name_run (take n x))) y ≡ take (suc (name_run (take n x))) x → name_run (take n y) ≡ name_run (take n x)
unfolding run_by
run_agrees zero x y few h e = refl
run_agrees (suc n) [] y few h e = absurd (omega arith)
run_agrees (suc n) (b ∷ x) [] few h e = clash cc
run_agrees (suc n) (b ∷ x) (c ∷ y) few h e =
    let r = name_run (take n x) in
    let same : c ≡ b = cc in
    let rest : take (more (name_byte b) r) y ≡ take (more (name_byte b) r) x = cc in
    rw same (more_agrees (name_byte b) n r (name_run (take n y)) x y h rest (run_agrees n x y (omega arith)))

front_agrees : (n : ℕ) (x y : List ℕ) → n ≤ length x → name_front (take n x) < n →
    take (suc (name_front (take n x))) y ≡ take (suc (name_front (take n x))) x → name_front (take n y) ≡ name_front (take n x)
unfolding front_by
front_agrees zero x y few h e = refl
front_agrees (suc n) [] y few h e = absurd (omega arith)
front_agrees (suc n) (b ∷ x) [] few h e = clash cc
front_agrees (suc n) (b ∷ x) (c ∷ y) few h e =
    let r = name_run (take n x) in
    let same : c ≡ b = cc in
    let rest : take (more (letter b) r) y ≡ take (more (letter b) r) x = cc in
    rw same (more_agrees (letter b) n r (name_run (take n y)) x y h rest (run_agrees n x y (omega arith)))

-- With letters after bytes that may stand there, all may.
more_mends : (p : Bool) (r n q m : ℕ) → suc r ≤ more p q → (r ≤ q → m ≡ n) → more p m ≡ suc n
more_mends true r n q m h on = ap suc (on (omega arith))
more_mends false r n q m h on = absurd (omega arith)

run_mends : (r n m : ℕ) (x : List ℕ) → n ≤ r + m → r ≤ name_run (take n x) → name_run (take n (take r x ++ replicate m 65)) ≡ n
unfolding run_by
run_mends zero zero m x few h = refl
run_mends zero (suc n) zero x few h = absurd (omega arith)
run_mends zero (suc n) (suc m) x few h = ap suc (run_mends zero n m x (omega arith) (omega arith))
run_mends (suc r) zero m x few h = absurd (omega arith)
run_mends (suc r) (suc n) m [] few h = absurd (omega arith)
run_mends (suc r) (suc n) m (b ∷ x) few h =
    more_mends (name_byte b) r n (name_run (take n x)) (name_run (take n (take r x ++ replicate m 65))) h (run_mends r n m x (omega arith))

front_mends : (r n m : ℕ) (x : List ℕ) → n ≤ r + m → r ≤ name_front (take n x) →
    name_front (take n (take r x ++ replicate m 65)) ≡ n
unfolding front_by
front_mends r zero m x few h = refl
front_mends zero (suc n) zero x few h = absurd (omega arith)
front_mends zero (suc n) (suc m) x few h = ap suc (run_mends zero n m [] (omega arith) (omega arith))
front_mends (suc r) (suc n) m [] few h = absurd (omega arith)
front_mends (suc r) (suc n) m (b ∷ x) few h =
    more_mends (letter b) r n (name_run (take n x)) (name_run (take n (take r x ++ replicate m 65))) h (run_mends r n m x (omega arith))

take_front : (k : ℕ) (s t : List ℕ) → k ≤ length s → take k (take k s ++ t) ≡ take k s
take_front zero s t h = refl
take_front (suc k) [] t h = absurd (omega arith)
take_front (suc k) (b ∷ s) t h = ap (λ r. b ∷ r) (take_front k s t (omega arith))

-- The count is right, and so many bytes stand behind it.
abbrev counts : ℕ → ℕ → Bool
counts count n = leb 1 count && (leb count 32 && leb count n)

-- A name of which a byte is named has a wrong count, and that is the byte; or so many bytes before it may stand there.
record Bad (count : ℕ) (s : List ℕ) (k : ℕ) : Type 0 where
  right : counts count (length s) ≡ true
  is : k ≡ suc (name_front (take count s))
  short : name_front (take count s) < count

broken : (count : ℕ) (s : List ℕ) (k : ℕ) → name_of (count ∷ s) ≡ Err k → ((counts count (length s) ≡ false) × (k ≡ 0)) ⊎ Bad count s k
unfolding name_by spelled
broken count s k e = go (counts count (length s)) refl e
  where
    front : ℕ
    front = name_front (take count s)

    spell : (b : Bool) → eqb front count ≡ b → cond b (Ok (1 + count)) (Err (1 + front)) ≡ Err k → (k ≡ suc front) × (front < count)
    spell true q e = clash cc
    spell false q e =
        let same : 1 + front ≡ k = cc in (omega arith, omega (arith, eqb-false front count q, front_short name_bytes count s))

    go : (b : Bool) → counts count (length s) ≡ b → cond b (spelled count front) (Err 0) ≡ Err k →
        ((counts count (length s) ≡ false) × (k ≡ 0)) ⊎ Bad count s k
    go true q e = let w = spell (eqb front count) refl e in inr (record { right = q; is = w.0; short = w.1 })
    go false q e = inl (q, cc)

-- A right name has a right count, and all its bytes may stand there.
pub named : (count : ℕ) (s : List ℕ) → Named (count ∷ s) → (counts count (length s) ≡ true) × (name_front (take count s) ≡ count)
unfolding name_by spelled
named count s (k, e) = go (counts count (length s)) refl e
  where
    front : ℕ
    front = name_front (take count s)

    go : (b : Bool) → counts count (length s) ≡ b → cond b (spelled count front) (Err 0) ≡ Ok k →
        (counts count (length s) ≡ true) × (front ≡ count)
    go true q e = (q, spell (eqb front count) refl e)
      where
        spell : (b : Bool) → eqb front count ≡ b → cond b (Ok (1 + count)) (Err (1 + front)) ≡ Ok k → front ≡ count
        spell true q e = eqb-true front count q
        spell false q e = clash cc
    go false q e = clash cc

pub offends : (s : List ℕ) (k : ℕ) → name_of s ≡ Err k → (t : List ℕ) → Agree (suc k) s t → Named t → ⊥
unfolding name_by
offends [] k e [] agree right = let e = right.1 in clash cc
offends [] k e (c ∷ t) agree right = omega (arith, agree.0)
offends (count ∷ s) k e [] agree right = omega (arith, agree.0)
offends (count ∷ s) k e (c ∷ t) agree right =
    let front = agree.1 in
    let same : c ≡ count = cc in
    let rest : take k t ≡ take k s = cc in
    let long : length t ≡ length s = omega (arith, agree.0) in
    by_count (rw (same, long) at (named c t right)) (broken count s k e) rest
  where
    by_count : (counts count (length s) ≡ true) × (name_front (take count t) ≡ count) →
        ((counts count (length s) ≡ false) × (k ≡ 0)) ⊎ Bad count s k → take k t ≡ take k s → ⊥
    by_count right (inl wrong) rest = false≢true (sym wrong.0 ∙ right.0)
    by_count right (inr bad) rest =
        let within = (both (leb count 32) (leb count (length s)) (both (leb 1 count) _ bad.right).1).1 in
        let same = front_agrees count s t (leb-true count (length s) within) bad.short (rw bad.is at rest) in
        omega (arith, same, right.1, bad.short)

pub mends : (s : List ℕ) (k : ℕ) → name_of s ≡ Err (suc k) → Agree (suc k) s (lettered (suc k) s) × Named (lettered (suc k) s)
unfolding name_by spelled
mends [] k e = clash cc
mends (count ∷ s) k e = by_count (broken count s (suc k) e)
  where
    by_count : ((counts count (length s) ≡ false) × (suc k ≡ 0)) ⊎ Bad count s (suc k) →
        Agree (suc k) (count ∷ s) (lettered (suc k) (count ∷ s)) × Named (lettered (suc k) (count ∷ s))
    by_count (inl wrong) = absurd (omega arith)
    by_count (inr bad) =
        let right = both (leb 1 count) _ bad.right in
        let within = leb-true count (length s) (both (leb count 32) (leb count (length s)) right.1).1 in
        let left : suc (length s) - suc k ≡ length s - k = omega arith in
        let short : k < count = omega (arith, bad.is, bad.short) in
        let long : length (take k s ++ replicate (length s - k) 65) ≡ length s =
        simp (length-append, length-replicate, length-take) (omega arith) in
        let whole : name_front (take count (take k s ++ replicate (length s - k) 65)) ≡ count =
        front_mends k count (length s - k) s (omega arith) (omega (arith, bad.is)) in
        rw left ((ap suc long, ap (λ r. count ∷ r) (take_front k s _ (omega arith))), (1 + count, rw (long, bad.right, whole, eq-eqb count count refl)))
