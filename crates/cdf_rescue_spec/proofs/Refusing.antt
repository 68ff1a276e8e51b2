-- Which number a rescue answers.
use Rattle.std.proofs.Common.{ℕ, suc, ◌+◌, ◌-◌, ◌≤◌, ◌≡◌, refl, ap, ◌∙◌, List, [], ◌∷◌, arith, lt-ltb, le-ltb, ne_eqb, length, take, drop}
use Rattle.std.proofs.Common.{length-append, length-take, length-drop}
use mathlib.Core.List.{flatten}
use Rattle.cdf_unit_table.specs.Ids.{er_group}
use Rattle.cdf_unit_prefix.specs.Layout.{Layout, prefix_of}
use Rattle.cdf_grammar.specs.Groups.{group_bytes}
use Rattle.cdf_rescue_spec.specs.Salvage.{Piece, kept, pieces, kept_bytes, runs_of, rescued}
use Rattle.cdf_rescue_spec.specs.Kept.{kept_units, Refuses}
use Rattle.cdf_rescue_spec.proofs.Cutting.{by_pieces}
use Rattle.cdf_rescue_spec.proofs.Answer.{rescue_is}
use Rattle.cdf_rescue_spec.proofs.Grouping.{kept_flat, kept_group, length_group}

module _ (l : Layout) (s : List ℕ) where
  abbrev NoneKept : List Piece → Type 0
  NoneKept ps = length (kept_bytes s ps) ≡ 0 → kept_units s ps ≡ []

  -- A piece that is kept has bytes.
  some_kept : (at k : ℕ) (ps : List Piece) → at + suc k ≤ length s → NoneKept (kept at (at + suc k) ∷ ps)
  unfolding kept_bytes
  some_kept at k ps h e =
      let front = take (at + suc k - at) (drop at s) in
      absurd (omega (arith, length-append front (kept_bytes s ps), length-take (at + suc k - at) (drop at s), length-drop at s))

  none_kept : NoneKept (pieces l s)
  unfolding pieces kept_bytes kept_units
  none_kept =
      by_pieces l s (λ at ps. NoneKept ps)
      (λ at h e. refl)
      (λ at ps h w more e. more e)
      (λ at k ps w h more. some_kept at k ps h)
      (length s) (prefix_of l) (omega arith)

  pub refuses : (room : ℕ) → Refuses l room s
  unfolding rescued flatten
  refuses room =
      let ps = pieces l s in
      let inner = kept_bytes s ps in
      let n = prefix_of l + length inner in
      let long : length (group_bytes l er_group (kept_units s ps)) ≡ n = rw (← kept_group) (length_group l inner) in
      rw (long, rescue_is) (
        (λ h. rw (lt-ltb (length s) (prefix_of l) h)),
        λ a.
            let enough = le-ltb (length s) (prefix_of l) (omega (arith, a)) in (
              (λ h. rw (enough, ap length (kept_flat s ps ∙ ap flatten h))),
              λ b.
                  let some = ne_eqb (length inner) 0 (λ z. b (none_kept z)) in (
                    (λ h. rw (enough, some, lt-ltb 64 (length (runs_of ps)) h)),
                    λ c.
                        let few = le-ltb 64 (length (runs_of ps)) (omega (arith, c)) in (
                          (λ h. rw (enough, some, few, lt-ltb l.limit n h)),
                          λ d.
                              let within = le-ltb l.limit n (omega (arith, d)) in (
                                (λ h. rw (enough, some, few, within, lt-ltb room n h)),
                                λ f.
                                    rw (enough, some, few, within, le-ltb room n (omega (arith, f))),
                              ),
                        ),
                  ),
            ),
      )
