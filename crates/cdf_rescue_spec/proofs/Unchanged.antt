-- An accepted E/R group comes out as it was.
use Rattle.std.proofs.Common.{ℕ, suc, ◌+◌, ◌^◌, ◌≤◌, ◌<◌, ◌≡◌, refl, sym, ap, ◌∙◌, List, [], ◌∷◌, ◌++◌, inl, inr, arith, length, drop, length-drop}
use Rattle.std.proofs.Common.{take-append-drop, drop_of_length-le, drop_at, drop-drop}
use Rattle.cdf_unit_table.specs.Ids.{er_group}
use Rattle.cdf_unit_table.specs.States.{nothing}
use Rattle.cdf_unit_table.proofs.Parts.{minus_plus}
use Rattle.cdf_unit_prefix.specs.Layout.{Layout, prefix_of}
use Rattle.cdf_grammar.specs.Trees.{Forest, none, tree, ids}
use Rattle.cdf_grammar.specs.Published.{Conforms, production_of}
use Rattle.cdf_grammar.specs.Encoding.{Stream, prefix_bytes, unit_bytes, encode}
use Rattle.cdf_grammar.proofs.Built.{encode_none, encode_tree, size_of, unit_is, length_unit, length_tree}
use Rattle.cdf_grammar.proofs.Prefixes.{length_prefix}
use Rattle.cdf_grammar.proofs.RowsAgree.{content_agrees}
use Rattle.cdf_grammar.proofs.Children.{Firsts, group_kind}
use Rattle.cdf_rescue_spec.specs.Salvage.{Piece, kept, dropped, whole_at, pieces, kept_bytes, runs_of, group_of, rescue_of}
use Rattle.cdf_rescue_spec.proofs.Cutting.{by_pieces}
use Rattle.cdf_rescue_spec.proofs.Wholes.{tree_whole}
use Rattle.cdf_rescue_spec.proofs.Answer.{rescue_is, group_is, answers}
use Rattle.cdf_rescue_spec.proofs.Grouping.{length_group, group_bytes_lem, no_bytes}

module _ (l : Layout) where
  module _ (s : List ℕ) (small : length s < 256 ^ l.length_bytes) where
    -- After n bytes from a position on, trees that an E/R group may hold stand to the end.
    record Behind (at n : ℕ) : Type 0 where
      some : 0 < n
      rest : Forest
      right : Conforms rest
      all : Firsts (nothing er_group) (ids rest)
      bytes : drop (at + n) s ≡ encode l rest

    -- Where such trees stand from a position to the end, the first is kept,
    first_kept : (at : ℕ) → at < length s → (f : Forest) → Conforms f → Firsts (nothing er_group) (ids f) → drop at s ≡ encode l f →
        Behind at (whole_at l (drop at s))
    unfolding ids
    first_kept at h none c d is = absurd (omega (arith, ap length (is ∙ encode_none l), length-drop at s))
    first_kept at h (tree id action text inner rest) c d is =
        let unit = unit_bytes l id action text (encode l inner) in
        let here : drop at s ≡ unit ++ encode l rest = is ∙ encode_tree l id action text inner rest in
        let long = ap length is ∙ length_tree l id action text inner rest in
        let low : size_of l text inner < 256 ^ l.length_bytes = omega (arith, length-drop at s) in
        let behind = drop_at unit (encode l rest) (size_of l text inner) (length_unit l id action text (encode l inner)) in
        rw (tree_whole l (c.0, c.1, record {}) d.0 low (drop at s) (encode l rest) here)
        (record { some = omega arith; rest = rest; right = c.2; all = d.1; bytes = rw (← drop-drop, here) behind })

    -- and so are all pieces.
    abbrev Same : ℕ → List Piece → Type 0
    Same at ps = (f : Forest) → Conforms f → Firsts (nothing er_group) (ids f) → drop at s ≡ encode l f → (runs_of ps ≡ []) × (kept_bytes s ps ≡ drop at s)

    same_none : (at : ℕ) → length s ≤ at → Same at []
    unfolding runs_of kept_bytes
    same_none at h f c d is = (refl, sym (drop_of_length-le s h))

    same_dropped : (at : ℕ) (ps : List Piece) → at < length s → whole_at l (drop at s) ≡ 0 → Same (suc at) ps → Same at (dropped at ∷ ps)
    same_dropped at ps h w more f c d is = absurd (omega (arith, (first_kept at h f c d is).some))

    same_kept : (at k : ℕ) (ps : List Piece) → whole_at l (drop at s) ≡ suc k → at + suc k ≤ length s → Same (at + suc k) ps →
        Same at (kept at (at + suc k) ∷ ps)
    unfolding runs_of kept_bytes
    same_kept at k ps w h more f c d is =
        let v : Behind at (suc k) = rw w at (first_kept at (omega arith) f c d is) in
        let u = more v.rest v.right v.all v.bytes in
        (u.0, rw (minus_plus (suc k) at, u.1, ← drop-drop (suc k) at s, take-append-drop))

    all_kept : Same (prefix_of l) (pieces l s)
    unfolding pieces
    all_kept = by_pieces l s Same same_none same_dropped same_kept (length s) (prefix_of l) (omega arith)

  group_rest : (inner : List ℕ) → drop (prefix_of l) (group_of l inner) ≡ inner
  group_rest inner =
      let n = prefix_of l + (0 + length inner) in
      rw (group_is, unit_is) (drop_at (prefix_bytes l n 0 er_group) inner (prefix_of l) (length_prefix l n 0 er_group))

  rescued_same : (room : ℕ) (s : List ℕ) (held : Forest) → s ≡ group_of l (encode l held) → Conforms held → Firsts (nothing er_group) (ids held) →
      (ids held ≡ [] → ⊥) → length s ≤ l.limit → l.limit < 256 ^ l.length_bytes → length s ≤ room →
      rescue_of l room s ≡ record { number = 0; runs = []; group = s }
  rescued_same room s held is c d some within wide fits =
      let behind : drop (prefix_of l) s ≡ encode l held = ap (drop (prefix_of l)) is ∙ group_rest (encode l held) in
      let long = ap length is ∙ length_group l (encode l held) in
      let v = all_kept s (omega arith) held c d behind in
      rw (rescue_is, v.0, v.1, behind)
      (answers l room s (encode l held) [] (record {
        enough = omega arith;
        some = λ z. some ((no_bytes l held).1 z);
        few = omega arith;
        within = omega arith;
        fits = omega arith;
      }) ∙ rw (← is))

  -- The root of one has no action and no own data.
  pub unchanged : (room : ℕ) (s : List ℕ) (action : ℕ) (text : List ℕ) (held : Forest) → Stream l s (tree er_group action text held none) →
      l.limit < 256 ^ l.length_bytes → length s ≤ room → rescue_of l room s ≡ record { number = 0; runs = []; group = s }
  unfolding production_of
  unchanged room s action text held p wide fits =
      let c = p.tree.conforms in
      let none_done : action ≡ 0 = elim c.0.acts [ inl e ↦ e | inr e ↦ absurd e ] in
      let kind = group_kind er_group (inl refl) in
      let w = (kind.full (ids held)).0 ((content_agrees er_group kind.opens (ids held)).0 c.0.holds) in
      rescued_same room s held (sym p.bytes ∙ (rw (none_done, c.0.says) (group_bytes_lem l held))) c.1 w.1 w.0 p.within wide fits
