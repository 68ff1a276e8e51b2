-- Whole units are kept and bytes dropped where none begins, and there is no other way to cut the bytes so.
use Rattle.std.proofs.Common.{ℕ, suc, ◌+◌, ◌-◌, ◌≤◌, ◌<◌, ◌≡◌, refl, List, [], ◌∷◌, arith, length, take, drop, length-take, length-drop, take_all}
use Rattle.cdf_unit_table.proofs.Parts.{minus_plus}
use Rattle.cdf_unit_prefix.specs.Layout.{Layout, prefix_of}
use Rattle.cdf_grammar.specs.Encoding.{Bytes}
use Rattle.cdf_grammar.proofs.Parts.{part_bytes}
use Rattle.cdf_rescue_spec.specs.Salvage.{Piece, kept, dropped, whole_at, pieces}
use Rattle.cdf_rescue_spec.specs.Kept.{Whole, Tiles, Decided}
use Rattle.cdf_rescue_spec.proofs.Cutting.{by_pieces}
use Rattle.cdf_rescue_spec.proofs.Wholes.{whole_is, is_whole}

-- Bytes are bytes from any position on.
rest_bytes : (at : ℕ) (s : List ℕ) → Bytes s → Bytes (drop at s)
rest_bytes at s b = rw (take_all (length s) (drop at s) (rw length-drop (omega arith))) at (part_bytes at (length s) s b)

tiles_up : (a b : ℕ) (ps : List Piece) → Tiles a b ps → a ≤ b
tiles_up a b [] t = omega arith
tiles_up a b (kept from to ∷ ps) t = omega (arith, t.1, tiles_up to b ps t.2)
tiles_up a b (dropped at ∷ ps) t = omega (arith, tiles_up (suc a) b ps t.1)

module _ (l : Layout) (s : List ℕ) (b : Bytes s) where
  whole_there : (at k : ℕ) → whole_at l (drop at s) ≡ suc k → Whole l (take (suc k) (drop at s))
  whole_there at k w = whole_is l (drop at s) k (rest_bytes at s b) w

  none_there : (at n : ℕ) → whole_at l (drop at s) ≡ 0 → Whole l (take n (drop at s)) → ⊥
  none_there at n w h = let v = is_whole l (drop at s) n h in omega arith

  pub decided : Decided l s (pieces l s)
  unfolding pieces
  decided =
      by_pieces l s (λ at ps. Decided l s ps)
      (λ at h. record {})
      (λ at ps h w more. ((λ n. none_there at n w), more))
      (λ at k ps w h more. (rw (minus_plus (suc k) at) (whole_there at k w), more))
      (length s) (prefix_of l) (omega arith)

  -- Any cut from a position on.
  abbrev Only : ℕ → List Piece → Type 0
  Only at ps = (qs : List Piece) → Tiles at (length s) qs → Decided l s qs → qs ≡ ps

  only_none : (at : ℕ) → length s ≤ at → Only at []
  only_none at h [] t d = refl
  only_none at h (kept from to ∷ qs) t d = absurd (omega (arith, t.1, tiles_up to (length s) qs t.2))
  only_none at h (dropped j ∷ qs) t d = absurd (omega (arith, tiles_up (suc at) (length s) qs t.1))

  only_dropped : (at : ℕ) (ps : List Piece) → at < length s → whole_at l (drop at s) ≡ 0 → Only (suc at) ps → Only at (dropped at ∷ ps)
  only_dropped at ps h w more [] t d = absurd (omega arith)
  only_dropped at ps h w more (kept from to ∷ qs) t d = absurd (none_there at (to - at) w (rw t.0 at d.0))
  only_dropped at ps h w more (dropped j ∷ qs) t d = let rest = more qs t.1 d.1 in cc t.0

  only_kept : (at k : ℕ) (ps : List Piece) → whole_at l (drop at s) ≡ suc k → at + suc k ≤ length s → Only (at + suc k) ps →
      Only at (kept at (at + suc k) ∷ ps)
  only_kept at k ps w h more [] t d = absurd (omega arith)
  only_kept at k ps w h more (kept from to ∷ qs) t d =
      let v = is_whole l (drop at s) (to - at) (rw t.0 at d.0) in
      let end : to ≡ at + suc k =
      omega (arith, length-take (to - at) (drop at s), length-drop at s, tiles_up to (length s) qs t.2) in
      let rest = more qs (rw end at t.2) d.1 in
      cc t.0
  only_kept at k ps w h more (dropped j ∷ qs) t d = absurd (d.0 (suc k) (rw t.0 (whole_there at k w)))

  pub only : Only (prefix_of l) (pieces l s)
  unfolding pieces
  only = by_pieces l s Only only_none only_dropped only_kept (length s) (prefix_of l) (omega arith)
