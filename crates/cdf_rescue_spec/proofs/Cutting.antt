-- How the bytes are cut into pieces: what holds of them by induction, and that they cover the bytes.
use Rattle.std.proofs.Common.{ℕ, zero, suc, ◌+◌, ◌≤◌, ◌<◌, ◌≡◌, refl, Bool, true, false, cond, List, [], ◌∷◌, arith, eqb-true, ltb-true, ltb-false}
use Rattle.std.proofs.Common.{eqb, ltb, length, drop, length-drop}
use Rattle.cdf_unit_table.specs.Ids.{er_group}
use Rattle.cdf_unit_table.specs.States.{nothing}
use Rattle.cdf_unit_table.proofs.Bools.{of_cond}
use Rattle.cdf_unit_prefix.specs.Layout.{Layout, prefix_of, length_at}
use Rattle.cdf_unit_list.specs.Check.{check_in}
use Rattle.cdf_grammar.proofs.Within.{stands}
use Rattle.cdf_rescue_spec.specs.Salvage.{Piece, kept, dropped, whole_at, piece_then, pieces_from, pieces}
use Rattle.cdf_rescue_spec.specs.Kept.{Tiles}

-- A unit that is kept lies within the bytes.
pub whole_within : (l : Layout) (t : List ℕ) → whole_at l t ≤ length t
unfolding whole_at
whole_within l t =
    let number = (check_in l (nothing er_group) t).number in
    of_cond (λ n. n ≤ length t) (eqb number 0) (length_at l t) 0
    (λ e. (stands l (nothing er_group) t (eqb-true number 0 e)).high) (λ e. omega arith)

module _ (l : Layout) (s : List ℕ) where
  -- By induction over the pieces, with fuel for all bytes that are left.
  pub by_pieces : (P : ℕ → List Piece → Type 0) → ((at : ℕ) → length s ≤ at → P at []) →
      ((at : ℕ) (ps : List Piece) → at < length s → whole_at l (drop at s) ≡ 0 → P (suc at) ps → P at (dropped at ∷ ps)) →
      ((at k : ℕ) (ps : List Piece) → whole_at l (drop at s) ≡ suc k → at + suc k ≤ length s → P (at + suc k) ps →
      P at (kept at (at + suc k) ∷ ps)) →
      (fuel at : ℕ) → length s ≤ at + fuel → P at (pieces_from fuel l s at)
  unfolding pieces_from
  by_pieces P ends drops keeps zero at h = ends at (omega arith)
  by_pieces P ends drops keeps (suc fuel) at h = by_end (ltb at (length s)) refl (by_pieces P ends drops keeps fuel)
    where
      by_end : (b : Bool) → ltb at (length s) ≡ b → ((j : ℕ) → length s ≤ j + fuel → P j (pieces_from fuel l s j)) →
          P at (cond b (piece_then (pieces_from fuel l s) at (whole_at l (drop at s))) [])
      by_end false e more = ends at (ltb-false at (length s) e)
      by_end true e more = by_whole (whole_at l (drop at s)) refl (whole_within l (drop at s))
        where
          by_whole : (n : ℕ) → whole_at l (drop at s) ≡ n → n ≤ length (drop at s) → P at (piece_then (pieces_from fuel l s) at n)
          by_whole zero w fit = drops at _ (ltb-true at (length s) e) w (more (suc at) (omega arith))
          by_whole (suc k) w fit = keeps at k _ w (omega (arith, length-drop at s)) (more (at + suc k) (omega arith))

  pub covers : prefix_of l ≤ length s → Tiles (prefix_of l) (length s) (pieces l s)
  unfolding pieces
  covers =
      by_pieces (λ at ps. at ≤ length s → Tiles at (length s) ps)
      (λ at h low. omega arith)
      (λ at ps h w more low. (refl, more (omega arith)))
      (λ at k ps w h more low. (refl, omega arith, more h))
      (length s) (prefix_of l) (omega arith)

  -- However few bytes there are, the pieces stand one behind the other.
  pub in_order : (b : ℕ) × Tiles (prefix_of l) b (pieces l s)
  unfolding pieces
  in_order =
      by_pieces (λ at ps. (b : ℕ) × Tiles at b ps)
      (λ at h. (at, refl))
      (λ at ps h w more. (more.0, (refl, more.1)))
      (λ at k ps w h more. (more.0, (refl, omega arith, more.1)))
      (length s) (prefix_of l) (omega arith)
