-- The loop over gaps and spans.
use Rattle.std.proofs.Common.{ℕ, suc, ◌+◌, ◌-◌, ◌≤◌, ◌<◌, ◌≡◌, refl, sym, ap, ◌∙◌, List, [], ◌∷◌, ◌++◌, append-nil, append_assoc, ◌⊎◌, inl, inr}
use Rattle.std.proofs.Common.{arith, eqb, length, take, drop, set, replicate, length-append, length-take, length-drop}
use native.Mathlib.Decide.{dec_lt}
use lib.Seq.{set-append_seam, append_snoc}
use Rattle.cdf_unit_table.proofs.Bools.{of_cond}
use Rattle.cdf_unit_prefix.specs.Layout.{Layout, prefix_of}
use Rattle.cdf_rescue_spec.specs.Salvage.{whole_at, pieces, kept_bytes, join_run, runs_of, most_runs}
use Rattle.cdf_rescue_spec.specs.declared.Run.{Run}
use Rattle.cdf_rescue_spec.proofs.Steps.{none_at, drop_at}
use Rattle.cdf_rescue.specs.Numbers.{entries}
use Rattle.cdf_rescue.specs.Parts.{Gap, Span, kept_from, runs_from, All, Many}
use Rattle.cdf_refusal.specs.declared.Refusal.TheVariants.{TooManyRuns}
use Rattle.cdf_rescue.proofs.Runs.{run, gap_run}

-- One run more, in the first entry that is not used.
entry_on : (rs : List Run) (r : Run) → length rs < most_runs → set (entries rs) (length rs) r ≡ entries (rs ++ (r ∷ []))
entry_on rs r h =
    let none = run 0 0 in
    let left = most_runs - suc (length rs) in
    let some : most_runs - length rs ≡ suc left = omega arith in
    let fewer : most_runs - (length rs + 1) ≡ left = omega arith in
    rw (some, set-append_seam rs none (replicate left none) r, length-append rs (r ∷ []), fewer, append_snoc rs r (replicate left none))

module _ (l : Layout) (s : List ℕ) where
  -- So far: the runs before the position are in their entries, and so many bytes before it are kept.
  pub record Scanning (at kept count : ℕ) (runs : List Run) : Type 0 where
    pub done : List Run
    pub all : runs_of (pieces l s) ≡ done ++ runs_from l s at
    pub count_is : count ≡ length done
    pub few : count ≤ most_runs
    pub runs_are : runs ≡ entries done
    pub bytes : length (kept_bytes s (pieces l s)) ≡ kept + length (kept_from l s at)
    pub within : kept ≤ at
    pub high : at ≤ length s
    pub stops : (at ≡ length s) ⊎ (whole_at l (drop at s) ≡ 0)
    pub some : (count ≡ 0) ⊎ ((0 < kept) ⊎ (at ≡ length s))

  part_long : (at to : ℕ) → at ≤ to → to ≤ length s → length (take (to - at) (drop at s)) ≡ to - at
  part_long at to low high = omega (arith, length-take (to - at) (drop at s), length-drop at s)

  pub scan_begun : (at : ℕ) (none : Run) → (none.from ≡ 0) × (none.to ≡ 0) → Span l s (prefix_of l) at →
      Scanning at (at - prefix_of l) 0 (replicate 64 none)
  unfolding pieces
  scan_begun at none zero w = record {
    done = [];
    all = w.runs;
    count_is = refl;
    few = omega arith;
    runs_are = let is : none ≡ run 0 0 = ap (λ x. run x none.to) zero.0 ∙ ap (run 0) zero.1 in ap (replicate 64) is;
    bytes = ap length w.bytes ∙ rw (length-append, part_long (prefix_of l) at w.low w.high);
    within = omega arith;
    high = w.high;
    stops = w.stops;
    some = inl refl;
  }

  module _ (at kept count : ℕ) (runs : List Run) (g : Scanning at kept count runs) (h : at < length s) where
    none_here : whole_at l (drop at s) ≡ 0
    none_here = go g.stops
      where
        go : (at ≡ length s) ⊎ (whole_at l (drop at s) ≡ 0) → whole_at l (drop at s) ≡ 0
        go (inl e) = absurd (omega arith)
        go (inr e) = e

    -- So the gap is not empty.
    pub later : (start : ℕ) → Gap l s at start → at < start
    later start w = go (dec_lt at start) w.stops
      where
        go : Dec (at < start) → (start ≡ length s) ⊎ (whole_at l (drop start s) ≡ 0 → ⊥) → at < start
        go (yes p) x = p
        go (no p) (inl e) = absurd (omega (arith, w.low))
        go (no p) (inr some) = let same : start ≡ at = omega (arith, w.low) in absurd (some (rw same none_here))

    -- Where the next span does not reach the end, a unit stands in it.
    reaches : (start end : ℕ) → Gap l s at start → Span l s start end → (0 < kept + (end - start)) ⊎ (end ≡ length s)
    reaches start end w v = go w.stops v.stops
      where
        go : (start ≡ length s) ⊎ (whole_at l (drop start s) ≡ 0 → ⊥) → (end ≡ length s) ⊎ (whole_at l (drop end s) ≡ 0) →
            (0 < kept + (end - start)) ⊎ (end ≡ length s)
        go (inl e) x = inr (omega (arith, v.low, v.high))
        go (inr some) (inl e) = inr e
        go (inr some) (inr none) = by (dec_lt start end)
          where
            by : Dec (start < end) → (0 < kept + (end - start)) ⊎ (end ≡ length s)
            by (yes p) = inl (omega arith)
            by (no p) = let same : start ≡ end = omega (arith, v.low) in absurd (some (rw same none))

    pub scan_on : (start end : ℕ) → count < most_runs → Gap l s at start → Span l s start end →
        Scanning end (kept + (end - start)) (count + 1) (set runs count (run at start))
    scan_on start end room w v =
        let one = gap_run l s at start (later start w) w in
        let r = run at start in
        let few : length g.done < most_runs = omega (arith, g.count_is) in
        record {
          done = g.done ++ (r ∷ []);
          all = g.all ∙ rw (one.runs, v.runs) (sym (append_assoc g.done (r ∷ []) (runs_from l s end)));
          count_is = omega (arith, g.count_is, length-append g.done (r ∷ []));
          few = omega arith;
          runs_are = rw (g.runs_are, g.count_is) (entry_on g.done r few);
          bytes =
              let more = ap length (one.kept ∙ v.bytes) in
              let long = part_long start end v.low v.high in
              omega (arith, g.bytes, length-append (take (end - start) (drop start s)) (kept_from l s end));
          within = omega (arith, g.within, w.low, v.low);
          high = v.high;
          stops = v.stops;
          some = inr (reaches start end w v);
        }

    -- One run more than there are entries; and between two of them something is kept.
    pub scan_many : count ≡ most_runs → Many l s TooManyRuns
    unfolding runs_of join_run
    scan_many full = record { is = refl; more = more; some = kept_some g.some }
      where
        longer : (q : Run) (rs : List Run) → 1 ≤ length (join_run q rs)
        longer q [] = omega arith
        longer q (p ∷ ps) = of_cond (λ x. 1 ≤ length x) (eqb q.to p.from) (run q.from p.to ∷ ps) (q ∷ p ∷ ps)
            (λ y. omega arith) (λ y. omega arith)

        next : 1 ≤ length (runs_from l s at)
        next = rw (drop_at l s at h none_here) (longer (run at (suc at)) (runs_from l s (suc at)))

        more : most_runs < length (runs_of (pieces l s))
        more = rw (g.all, length-append) (omega (arith, next, g.count_is))

        kept_some : (count ≡ 0) ⊎ ((0 < kept) ⊎ (at ≡ length s)) → length (kept_bytes s (pieces l s)) ≡ 0 → ⊥
        kept_some (inl e) none = omega arith
        kept_some (inr (inl e)) none = omega (arith, g.bytes)
        kept_some (inr (inr e)) none = omega arith

  -- At the end all runs are found.
  pub scan_all : (at kept count : ℕ) (runs : List Run) → Scanning at kept count runs → length s ≤ at →
      All l s (record { kept = kept; count = count; runs = runs })
  unfolding kept_bytes runs_of
  scan_all at kept count runs g end =
      let none = none_at l s at end in
      let all : runs_of (pieces l s) ≡ g.done = g.all ∙ rw none (append-nil g.done) in
      let bytes : length (kept_bytes s (pieces l s)) ≡ kept = g.bytes ∙ rw none (omega arith) in
      record {
        kept = sym bytes;
        count = rw all g.count_is;
        runs = rw all g.runs_are;
        few = g.few;
        within = omega (arith, g.within, g.high);
      }
