-- The bytes of a name, one by one, whichever may stand in it.
use Rattle.std.proofs.Common.{ℕ, suc, ◌+◌, ◌-◌, ◌≤◌, ◌<◌, ◌≡◌, refl, sym, ◌∙◌, Bool, true, false, cond, ◌&&◌, List, [], ◌∷◌, arith, add-one, leb}
use Rattle.std.proofs.Common.{length, take, drop, get_or, drop_of_length-le, length-take, drop-cons, le-leb}
use Rattle.cdf_unit_data.specs.Data.{NameBytes, run_by, front_by, spelled, name_by}
use Rattle.std.specs.Prelude.{Err}

one_more : (t : Bool) (n m : ℕ) → n ≤ m → cond t (suc n) 0 ≤ suc m
one_more true n m h = omega arith
one_more false n m h = omega arith

module _ (w : NameBytes) where
  run_fits : (s : List ℕ) → run_by w s ≤ length s
  unfolding run_by
  run_fits [] = omega arith
  run_fits (b ∷ s) = one_more (w.later b) (run_by w s) (length s) (run_fits s)

  front_fits : (s : List ℕ) → front_by w s ≤ length s
  unfolding front_by
  front_fits [] = omega arith
  front_fits (b ∷ s) = one_more (w.first b) (run_by w s) (length s) (run_fits s)

  pub front_short : (n : ℕ) (s : List ℕ) → front_by w (take n s) ≤ n
  front_short n s = omega (arith, front_fits (take n s), length-take n s)

  -- from i on, where everything before may stand in a name
  pub record Run (s : List ℕ) (i : ℕ) : Type 0 where
    pub within : i ≤ length s
    pub same : front_by w s ≡ i + run_by w (drop i s)

  pub front_none : (s : List ℕ) → length s ≡ 0 → 0 ≡ front_by w s
  unfolding front_by
  front_none [] e = refl
  front_none (b ∷ s) e = absurd (omega arith)

  first_is : (s : List ℕ) → (length s ≡ 0 → ⊥) → front_by w s ≡ cond (w.first (get_or s 0 0)) (suc (run_by w (drop 1 s))) 0
  unfolding front_by
  first_is [] some = absurd (some refl)
  first_is (b ∷ s) some = refl

  -- by the first byte
  module _ (s : List ℕ) (some : length s ≡ 0 → ⊥) where
    pub front_bad : (b : Bool) → b ≡ w.first (get_or s 0 0) → b ≡ false → 0 ≡ front_by w s
    front_bad b e f = sym (first_is s some ∙ rw (← e, f))

    pub begun : (b : Bool) → b ≡ w.first (get_or s 0 0) → b ≡ true → Run s 1
    begun b e f = record { within = omega (arith, some); same = first_is s some ∙ rw (← e, f) (omega arith) }

  module _ (s : List ℕ) (i : ℕ) (r : Run s i) where
    turn : (b : Bool) → i < length s → b ≡ w.later (get_or s i 0) →
        front_by w s ≡ i + cond b (suc (run_by w (drop (suc i) s))) 0
    unfolding run_by
    turn b h e = rw e (r.same ∙ rw (drop-cons s i 0 h))

    pub stopped : (b : Bool) → i < length s → b ≡ w.later (get_or s i 0) → b ≡ false → i ≡ front_by w s
    stopped b h e f = sym (turn b h e ∙ rw f (omega arith))

    pub on : (b : Bool) → i < length s → b ≡ w.later (get_or s i 0) → b ≡ true → Run s (i + 1)
    on b h e f = record { within = omega arith; same = turn b h e ∙ rw (f, add-one i) (omega arith) }

    pub ended : length s ≤ i → i ≡ front_by w s
    unfolding run_by
    ended h = sym (r.same ∙ rw (drop_of_length-le s h) (omega arith))

  pub name_none : (s : List ℕ) → length s ≡ 0 → Err 0 ≡ name_by w s
  unfolding name_by
  name_none [] e = refl
  name_none (b ∷ s) e = absurd (omega arith)

  after_count : (b : ℕ) (s : List ℕ) → name_by w (b ∷ s) ≡
      cond (leb 1 b && (leb b 32 && leb b (length (b ∷ s) - 1))) (spelled b (front_by w (take b (drop 1 (b ∷ s))))) (Err 0)
  unfolding name_by
  after_count b s = let e : suc (length s) - 1 ≡ length s = omega arith in rw e

  -- a name's count and the bytes after it
  module _ (s : List ℕ) (some : length s ≡ 0 → ⊥) (count : ℕ) (is : count ≡ get_or s 0 0) where
    pub name_is : name_by w s ≡
        cond (leb 1 count && (leb count 32 && leb count (length s - 1))) (spelled count (front_by w (take count (drop 1 s)))) (Err 0)
    name_is = rw is (go s some)
      where
        go : (s : List ℕ) → (length s ≡ 0 → ⊥) → name_by w s ≡
            cond (leb 1 (get_or s 0 0) && (leb (get_or s 0 0) 32 && leb (get_or s 0 0) (length s - 1)))
            (spelled (get_or s 0 0) (front_by w (take (get_or s 0 0) (drop 1 s)))) (Err 0)
        go [] some = absurd (some refl)
        go (b ∷ s) some = after_count b s

    -- with a right count
    pub name_by_lem : 1 ≤ count → count ≤ 32 → count ≤ length s - 1 → name_by w s ≡ spelled count (front_by w (take count (drop 1 s)))
    name_by_lem low high within = name_is ∙ rw (le-leb 1 count low, le-leb count 32 high, le-leb count (length s - 1) within)
