-- The dropped runs from a position on: a gap is one run, and what stands outside them is kept.
use Rattle.std.proofs.Common.{ℕ, zero, suc, ◌+◌, ◌-◌, ◌≤◌, ◌<◌, ◌≡◌, refl, sym, ◌∙◌, Bool, true, false, cond, List, [], ◌∷◌, ◌++◌, append_assoc, ◌⊎◌}
use Rattle.std.proofs.Common.{inl, inr, arith, eqb-true, eq-eqb, ne_eqb, eqb, length, take, drop, length-drop, drop_of_length-le, take-append-drop}
use Rattle.std.proofs.Common.{take-add, drop-drop}
use Rattle.cdf_unit_prefix.specs.Layout.{Layout}
use Rattle.cdf_rescue_spec.specs.Salvage.{whole_at, kept_bytes, join_run, runs_of}
use Rattle.cdf_rescue_spec.specs.declared.Run.{Run}
use Rattle.cdf_rescue_spec.proofs.Steps.{none_at, drop_at, keep_at}
use Rattle.cdf_rescue_spec.proofs.Cutting.{whole_within, by_pieces}
use Rattle.cdf_rescue.specs.Parts.{Gap, kept_from, runs_from}

abbrev pub run : ℕ → ℕ → Run
run a b = record { from = a; to = b }

-- The runs begin at a position or later, end at n or earlier, and come one after the other.
abbrev pub Rising : ℕ → ℕ → List Run → Type 0
Rising at n [] = at ≤ n
Rising at n (r ∷ rs) = (at ≤ r.from) × (r.from ≤ r.to) × Rising r.to n rs

pub rising_end : (at n : ℕ) (rs : List Run) → Rising at n rs → at ≤ n
rising_end at n [] h = h
rising_end at n (r ∷ rs) h = let more = rising_end r.to n rs h.2 in omega (arith, h.0, h.1)

rising_from : (a b n : ℕ) (rs : List Run) → a ≤ b → Rising b n rs → Rising a n rs
rising_from a b n [] h r = omega arith
rising_from a b n (q ∷ qs) h r = (omega (arith, r.0), r.1, r.2)

rising_join : (at n : ℕ) (rs : List Run) → Rising (suc at) n rs → Rising at n (join_run (run at (suc at)) rs)
unfolding join_run
rising_join at n [] h = (omega arith, omega arith, h)
rising_join at n (q ∷ qs) h = go (eqb (suc at) q.from)
  where
    go : (b : Bool) → Rising at n (cond b (run at q.to ∷ qs) (run at (suc at) ∷ q ∷ qs))
    go true = (omega arith, omega (arith, h.0, h.1), h.2)
    go false = (omega arith, omega arith, h)

-- The bytes from a position on that lie in no run.
abbrev pub outside : List ℕ → ℕ → List Run → List ℕ
outside s at [] = drop at s
outside s at (r ∷ rs) = take (r.from - at) (drop at s) ++ outside s r.to rs

outside_front : (s : List ℕ) (at k n : ℕ) (rs : List Run) → Rising (at + k) n rs →
    take k (drop at s) ++ outside s (at + k) rs ≡ outside s at rs
outside_front s at k n [] h = rw (← drop-drop k at s, take-append-drop)
outside_front s at k n (r ∷ rs) h =
    let sum : r.from - at ≡ k + (r.from - (at + k)) = omega (arith, h.0) in
    rw (sum, take-add k (r.from - (at + k)) (drop at s), drop-drop k at s) (simp append_assoc)

-- A run of one byte in front leaves nothing before it.
outside_join : (s : List ℕ) (at : ℕ) (rs : List Run) → outside s at (join_run (run at (suc at)) rs) ≡ outside s (suc at) rs
unfolding join_run
outside_join s at [] = let none : at - at ≡ 0 = omega arith in rw none
outside_join s at (q ∷ qs) = go (eqb (suc at) q.from) refl
  where
    go : (b : Bool) → eqb (suc at) q.from ≡ b →
        outside s at (cond b (run at q.to ∷ qs) (run at (suc at) ∷ q ∷ qs)) ≡ outside s (suc at) (q ∷ qs)
    go true e =
        let none : at - at ≡ 0 = omega arith in
        let same : q.from - suc at ≡ 0 = omega (arith, eqb-true (suc at) q.from e) in
        rw (none, same)
    go false e = let none : at - at ≡ 0 = omega arith in rw none

module _ (l : Layout) (s : List ℕ) where
  -- The runs rise, and what lies outside them is kept.
  pub record Split (at : ℕ) (kept : List ℕ) (runs : List Run) : Type 0 where
    pub rise : Rising at (length s) runs
    pub kept_is : kept ≡ outside s at runs

  pub split : (at : ℕ) → at ≤ length s → Split at (kept_from l s at) (runs_from l s at)
  unfolding kept_bytes runs_of
  split at h =
      by_pieces l s (λ at ps. at ≤ length s → Split at (kept_bytes s ps) (runs_of ps))
      (λ at end h. record { rise = h; kept_is = sym (drop_of_length-le s end) })
      (λ at ps some e more h.
      let w = more (omega arith) in
      record { rise = rising_join at (length s) (runs_of ps) w.rise; kept_is = w.kept_is ∙ sym (outside_join s at (runs_of ps)) })
      (λ at k ps e room more h.
      let w = more room in
      let long : at + suc k - at ≡ suc k = omega arith in
      record {
        rise = rising_from at (at + suc k) (length s) (runs_of ps) (omega arith) w.rise;
        kept_is = rw (long, w.kept_is) (outside_front s at (suc k) (length s) (runs_of ps) w.rise);
      })
      (length s) at (omega arith) h

  -- A run that ends where a unit stands, or at the end, has no neighbour.
  alone : (at to : ℕ) → (to ≡ length s) ⊎ (whole_at l (drop to s) ≡ 0 → ⊥) → to ≤ length s →
      join_run (run at to) (runs_from l s to) ≡ run at to ∷ runs_from l s to
  unfolding join_run runs_of
  alone at to (inl end) h = rw (none_at l s to (omega arith))
  alone at to (inr some) h = go (whole_at l (drop to s)) refl
    where
      later : (k : ℕ) (rs : List Run) → Rising (to + suc k) (length s) rs → join_run (run at to) rs ≡ run at to ∷ rs
      later k [] r = refl
      later k (q ∷ qs) r = rw (ne_eqb to q.from (λ e. omega (arith, r.0)))

      go : (k : ℕ) → whole_at l (drop to s) ≡ k → join_run (run at to) (runs_from l s to) ≡ run at to ∷ runs_from l s to
      go zero e = absurd (some e)
      go (suc k) e =
          let room = whole_within l (drop to s) in
          let long = length-drop to s in
          rw (keep_at l s to k (omega arith) e) (later k _ (split (to + suc k) (omega arith)).rise)

  -- A gap is one run, and nothing in it is kept.
  pub record OneRun (at to : ℕ) : Type 0 where
    pub runs : runs_from l s at ≡ run at to ∷ runs_from l s to
    pub kept : kept_from l s at ≡ kept_from l s to

  one_run : (d at to : ℕ) → to ≡ suc (at + d) → Gap l s at to → OneRun at to
  unfolding kept_bytes runs_of join_run
  one_run zero at to e g =
      let next : suc at ≡ to = omega arith in
      let step = drop_at l s at (omega (arith, g.high)) (g.none at (omega arith) (omega arith)) in
      record { runs = rw (step, next) (alone at to g.stops g.high); kept = rw (step, next) }
  one_run (suc d) at to e g =
      let step = drop_at l s at (omega (arith, g.high)) (g.none at (omega arith) (omega arith)) in
      let w = one_run d (suc at) to (omega arith) (record {
        low = omega arith;
        high = g.high;
        none = λ i a b. g.none i (omega arith) b;
        stops = g.stops;
      }) in
      record { runs = rw (step, w.runs, eq-eqb (suc at) (suc at) refl); kept = rw step w.kept }

  pub gap_run : (at to : ℕ) → at < to → Gap l s at to → OneRun at to
  gap_run at to h g = one_run (to - suc at) at to (omega arith) g
