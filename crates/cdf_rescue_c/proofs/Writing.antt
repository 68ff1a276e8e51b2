-- The runs are written one after the other.
use Rattle.std.proofs.Common.{ℕ, suc, ◌+◌, ◌*◌, ◌≤◌, ◌<◌, ◌≡◌, refl, sym, ap, ◌∙◌, List, [], ◌∷◌, ◌++◌, append-nil, arith, add-one, length, get_or}
use Rattle.std.proofs.Common.{take, drop, set, length-set, drop_of_length-le, take_all, drop-cons, take-suc-set}
use lib.Seq.{append_snoc}
use Rattle.cdf_rescue_spec.specs.declared.Run.{Run}
use Rattle.cdf_rescue_c.specs.Answer.{pairs}

-- The entries before a place, with those that are still to come, are what is due.
pub record Writing (before : List ℕ) (runs : List Run) (answer : List ℕ) (i : ℕ) : Type 0 where
  pub size : length answer ≡ 130
  pub full : length runs ≡ 64
  pub few : i ≤ 64
  pub is : take (2 * i + 2) answer ++ pairs (drop i runs) ≡ take 2 before ++ pairs runs

pub begun : (before : List ℕ) (runs : List Run) → length before ≡ 130 → length runs ≡ 64 → Writing before runs before 0
begun before runs size full = record { size = size; full = full; few = omega arith; is = refl }

-- One entry more, in front of any others.
one_more : (xs : List ℕ) (at x : ℕ) (ys : List ℕ) → at < length xs → take (suc at) (set xs at x) ++ ys ≡ take at xs ++ x ∷ ys
one_more xs at x ys h = rw (take-suc-set xs at x h) (append_snoc (take at xs) x ys)

module _ (before : List ℕ) (runs : List Run) (answer : List ℕ) (i : ℕ) (g : Writing before runs answer i) where
  pub on : (d : Run) → i < 64 →
      let r = get_or runs i d in
      Writing before runs (set (set answer (2 * i + 2) r.from) (2 * i + 3) r.to) (i + 1)
  on d h =
      let r = get_or runs i d in
      let at = 2 * i + 2 in
      let rest = pairs (drop (suc i) runs) in
      let size = g.size in
      let long = length-set answer at r.from in
      let next : 2 * i + 3 ≡ suc at = omega arith in
      let second : 2 * (i + 1) + 2 ≡ suc (suc at) = omega arith in
      let left : pairs (drop i runs) ≡ r.from ∷ r.to ∷ rest = rw (drop-cons runs i d (omega (arith, g.full))) in
      rw next (record {
        size = length-set (set answer at r.from) (suc at) r.to ∙ long ∙ size;
        full = g.full;
        few = omega arith;
        is =
            rw (second, add-one i)
            (one_more (set answer at r.from) (suc at) r.to rest (omega arith)
            ∙ one_more answer at r.from (r.to ∷ rest) (omega arith)
            ∙ ap (λ ys. take at answer ++ ys) (sym left)
            ∙ g.is);
      })

  pub done : length runs ≤ i → answer ≡ take 2 before ++ pairs runs
  done h =
      rw (drop_of_length-le runs h, append-nil, take_all (2 * i + 2) answer (omega (arith, g.size, g.full))) at g.is

-- The first two entries.
pub front : (xs : List ℕ) (a b : ℕ) → length xs ≡ 130 → take 2 (set (set xs 0 a) 1 b) ≡ a ∷ b ∷ []
front [] a b h = absurd (omega arith)
front (x ∷ []) a b h = absurd (omega arith)
front (x ∷ y ∷ xs) a b h = refl
