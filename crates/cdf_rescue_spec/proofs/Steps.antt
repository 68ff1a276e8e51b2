-- The pieces from a position on, one step at a time, whatever the fuel.
use Rattle.std.proofs.Common.{ℕ, zero, suc, ◌+◌, ◌≤◌, ◌<◌, ◌≡◌, refl, ap, ◌∙◌, cond, List, [], ◌∷◌, arith, lt-ltb, le-ltb, ltb, length, drop}
use Rattle.cdf_unit_prefix.specs.Layout.{Layout}
use Rattle.cdf_rescue_spec.specs.Salvage.{whole_at, Piece, kept, dropped, piece_then, pieces_from}

module _ (l : Layout) (s : List ℕ) where
  -- The pieces from a position on.
  abbrev pub pieces_at : ℕ → List Piece
  pieces_at at = pieces_from (length s) l s at

  then_same : (f g : ℕ → List Piece) (at k : ℕ) → ((n : ℕ) → at < n → f n ≡ g n) → piece_then f at k ≡ piece_then g at k
  unfolding piece_then
  then_same f g at zero same = ap (λ ps. dropped at ∷ ps) (same (suc at) (omega arith))
  then_same f g at (suc k) same = ap (λ ps. kept at (at + suc k) ∷ ps) (same (at + suc k) (omega arith))

  -- Fuel for the bytes that are left is enough.
  pub enough : (f g at : ℕ) → length s ≤ at + f → length s ≤ at + g → pieces_from f l s at ≡ pieces_from g l s at
  unfolding pieces_from
  enough zero zero at h k = refl
  enough zero (suc g) at h k = rw (le-ltb at (length s) (omega arith))
  enough (suc f) zero at h k = rw (le-ltb at (length s) (omega arith))
  enough (suc f) (suc g) at h k =
      ap (λ ps. cond (ltb at (length s)) ps [])
      (then_same (pieces_from f l s) (pieces_from g l s) at (whole_at l (drop at s)) (λ n more. enough f g n (omega arith) (omega arith)))

  pub none_at : (at : ℕ) → length s ≤ at → pieces_at at ≡ []
  unfolding pieces_from
  none_at at h = enough (length s) 0 at (omega arith) (omega arith)

  step_at : (at : ℕ) → at < length s → pieces_at at ≡ piece_then pieces_at at (whole_at l (drop at s))
  unfolding pieces_from
  step_at at h =
      enough (length s) (suc (length s)) at (omega arith) (omega arith) ∙ rw (lt-ltb at (length s) h)

  pub drop_at : (at : ℕ) → at < length s → whole_at l (drop at s) ≡ 0 → pieces_at at ≡ dropped at ∷ pieces_at (suc at)
  unfolding piece_then
  drop_at at h e = step_at at h ∙ rw e

  pub keep_at : (at k : ℕ) → at < length s → whole_at l (drop at s) ≡ suc k → pieces_at at ≡ kept at (at + suc k) ∷ pieces_at (at + suc k)
  unfolding piece_then
  keep_at at k h e = step_at at h ∙ rw e
