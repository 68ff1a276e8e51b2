-- The ranks that a struct holds, tested from the innermost outwards, against a quotient.
use Rattle.std.proofs.Common.{ℕ, zero, suc, ◌*◌, ◌/◌, ◌≡◌, refl, sym, Bool, true, false, ◌&&◌, ◌||◌, ◌∷◌, arith, le-leb, le-ltb, leb-true, leb-false}
use Rattle.std.proofs.Common.{ne_eqb, leb, ltb}
use Rattle.std.proofs.lemmas.Bool.{lt-leb}
use mathlib.Core.Bool.{and-true}
use Rattle.cdf_unit_prefix.specs.Layout.{layout_of, prefix_of}
use Rattle.cdf_unit_prefix.specs.declared.Edition.{Edition}
use Rattle.cdf_unit_prefix.specs.declared.Edition.TheVariants.{First, Second}
use Rattle.cdf_reader_spec.specs.Place.{every}
use Rattle.cdf_reader_spec.specs.Slots.{around_of, held_of, open_ranks}
use Rattle.cdf_reader_spec.specs.declared.Ranks.{Ranks}

-- At most the quotient: the product is at most the position.
pub by_quotient : (e : Edition) (k position : ℕ) → leb k (position / prefix_of (layout_of e)) ≡ leb (k * prefix_of (layout_of e)) position
by_quotient First k position = go (leb k (position / 6)) refl
  where
    go : (b : Bool) → leb k (position / 6) ≡ b → b ≡ leb (k * 6) position
    go true e = let h = leb-true k (position / 6) e in sym (le-leb (k * 6) position (omega arith))
    go false e = let h = leb-false k (position / 6) e in sym (lt-leb (k * 6) position (omega arith))
by_quotient Second k position = go (leb k (position / 8)) refl
  where
    go : (b : Bool) → leb k (position / 8) ≡ b → b ≡ leb (k * 8) position
    go true e = let h = leb-true k (position / 8) e in sym (le-leb (k * 8) position (omega arith))
    go false e = let h = leb-false k (position / 8) e in sym (lt-leb (k * 8) position (omega arith))

-- So many ranks, one after the other; where there is no room stands a 0, which always may.
module _ (f : ℕ → Bool) (none : f 0 ≡ true) (top r1 r2 r3 : ℕ) where
  full : (k : ℕ) → (f r3 && (f r2 && f r1)) ≡ every f (around_of 0 r1 r2 r3 (suc (suc (suc k))))
  unfolding every around_of
  full zero = rw and-true
  full (suc k) =
      let n = suc (suc (suc (suc k))) in
      rw (ne_eqb n 1 (λ e. omega arith), ne_eqb n 2 (λ e. omega arith), ne_eqb n 3 (λ e. omega arith), none) (full k)

  pub by_count : (count : ℕ) →
      ((ltb count 1 || f top) && ((ltb count 4 || f r3) && ((ltb count 3 || f r2) && (ltb count 2 || f r1))))
      ≡ every f (held_of 0 count top r1 r2 r3)
  unfolding every around_of held_of
  by_count zero = refl
  by_count (suc zero) = refl
  by_count (suc (suc zero)) = rw and-true
  by_count (suc (suc (suc zero))) = rw and-true
  by_count (suc (suc (suc (suc k)))) =
      let n = suc (suc (suc (suc k))) in
      rw (le-ltb n 1 (omega arith), le-ltb n 4 (omega arith), le-ltb n 3 (omega arith), le-ltb n 2 (omega arith), full k)

-- The tests of the code.
module _ (e : Edition) (position count most : ℕ) (ks : Ranks) (is : most ≡ position / prefix_of (layout_of e)) where
  may : ℕ → Bool
  may k = leb (k * prefix_of (layout_of e)) position

  none_may : may 0 ≡ true
  unfolding may
  none_may = le-leb (0 * prefix_of (layout_of e)) position (omega arith)

  asks : (k : ℕ) → leb k most ≡ may k
  unfolding may
  asks k = rw is (by_quotient e k position)

  pub all_low :
      (leb ks.last most
      && ((ltb count 1 || leb ks.top most)
      && ((ltb count 4 || leb ks.r3 most) && ((ltb count 3 || leb ks.r2 most) && (ltb count 2 || leb ks.r1 most)))))
      ≡ every (λ k. leb (k * prefix_of (layout_of e)) position) (ks.last ∷ open_ranks count ks)
  unfolding every open_ranks may
  all_low =
      rw (asks ks.last, asks ks.top, asks ks.r1, asks ks.r2, asks ks.r3, by_count may none_may ks.top ks.r1 ks.r2 ks.r3 count)
