-- The bytes before the first piece are not looked at.
use Rattle.std.proofs.Common.{ℕ, zero, suc, ◌+◌, ◌-◌, ◌≤◌, ◌≡◌, refl, sym, ap, ◌∙◌, cond, List, [], ◌∷◌, arith, ltb, length, drop, drop-drop}
use Rattle.cdf_unit_prefix.specs.Layout.{Layout, prefix_of}
use Rattle.cdf_rescue_spec.specs.Salvage.{Piece, kept, dropped, whole_at, piece_then, pieces_from, pieces, kept_bytes}
use Rattle.cdf_rescue_spec.specs.Salvage.{runs_of, rescued, rescue_of}
use Rattle.cdf_rescue_spec.specs.declared.Run.{Run}
use Rattle.cdf_rescue_spec.specs.Kept.{Tiles}
use Rattle.cdf_rescue_spec.proofs.Cutting.{in_order}
use Rattle.cdf_rescue_spec.proofs.Answer.{rescue_is}

module _ (l : Layout) (s r : List ℕ) (long : length s ≡ length r) where
  -- Bytes that are the same from a position on.
  later : (a b : ℕ) → a ≤ b → drop a s ≡ drop a r → drop b s ≡ drop b r
  later a b h e =
      let at : a + (b - a) ≡ b = omega arith in
      rw at at (sym (drop-drop (b - a) a s) ∙ ap (drop (b - a)) e ∙ drop-drop (b - a) a r)

  same_pieces : (fuel at : ℕ) → drop at s ≡ drop at r → pieces_from fuel l s at ≡ pieces_from fuel l r at
  unfolding pieces_from
  same_pieces zero at e = refl
  same_pieces (suc fuel) at e =
      rw (long, e)
      (ap (λ (ps : List Piece). cond (ltb at (length r)) ps [])
      (go (whole_at l (drop at r)) (λ j h. same_pieces fuel j (later at j h e))))
    where
      go : (n : ℕ) → ((j : ℕ) → at ≤ j → pieces_from fuel l s j ≡ pieces_from fuel l r j) →
          piece_then (pieces_from fuel l s) at n ≡ piece_then (pieces_from fuel l r) at n
      go zero more = rw (more (suc at) (omega arith))
      go (suc k) more = rw (more (at + suc k) (omega arith))

  same_kept : (a b : ℕ) (ps : List Piece) → Tiles a b ps → drop a s ≡ drop a r → kept_bytes s ps ≡ kept_bytes r ps
  unfolding kept_bytes
  same_kept a b [] t e = refl
  same_kept a b (kept from to ∷ ps) t e = rw (t.0, e, same_kept to b ps t.2 (later a to (omega (arith, t.1)) e))
  same_kept a b (dropped at ∷ ps) t e = same_kept (suc a) b ps t.1 (later a (suc a) (omega arith) e)

  same_answer : (room : ℕ) (inner : List ℕ) (runs : List Run) → rescued l room s inner runs ≡ rescued l room r inner runs
  unfolding rescued
  same_answer room inner runs = rw long

  module _ (e : drop (prefix_of l) s ≡ drop (prefix_of l) r) where
    same_cut : pieces l s ≡ pieces l r
    unfolding pieces
    same_cut = rw long (same_pieces (length r) (prefix_of l) e)

    pub unseen : (room : ℕ) → rescue_of l room s ≡ rescue_of l room r
    unseen room =
        let order = in_order l r in
        let bytes : kept_bytes s (pieces l r) ≡ kept_bytes r (pieces l r) = same_kept (prefix_of l) order.0 (pieces l r) order.1 e in
        rw (rescue_is l room s, rescue_is l room r, same_cut, bytes) (same_answer room (kept_bytes r (pieces l r)) (runs_of (pieces l r)))
