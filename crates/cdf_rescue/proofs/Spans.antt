-- The two loops: over bytes at which no unit stands whole, and over whole units.
use Rattle.std.proofs.Common.{ℕ, zero, suc, ◌+◌, ◌-◌, ◌≤◌, ◌<◌, ◌≡◌, refl, sym, ◌∙◌, List, ◌++◌, append_assoc, ◌⊎◌, arith, length, take, drop}
use Rattle.std.proofs.Common.{length-drop, take-add, drop-drop}
use native.Mathlib.Decide.{dec_lt}
use Rattle.cdf_unit_prefix.specs.Layout.{Layout}
use Rattle.cdf_rescue_spec.specs.Salvage.{whole_at, kept_bytes, runs_of}
use Rattle.cdf_rescue_spec.proofs.Steps.{keep_at}
use Rattle.cdf_rescue.specs.Parts.{Gap, kept_from, runs_from, Span}

module _ (l : Layout) (s : List ℕ) (from : ℕ) where
  -- No unit stands whole before the position.
  pub record Passed (at : ℕ) : Type 0 where
    pub low : from ≤ at
    pub high : at ≤ length s
    pub none : (i : ℕ) → from ≤ i → i < at → whole_at l (drop i s) ≡ 0

  pub passed_none : from ≤ length s → Passed from
  passed_none h = record { low = omega arith; high = h; none = λ i a b. absurd (omega arith) }

  pub passed_on : (at : ℕ) → Passed at → at < length s → whole_at l (drop at s) ≡ 0 → Passed (at + 1)
  passed_on at p h e = record { low = omega (arith, p.low); high = omega arith; none = λ i a b. go i a b (dec_lt i at) }
    where
      go : (i : ℕ) → from ≤ i → i < at + 1 → Dec (i < at) → whole_at l (drop i s) ≡ 0
      go i a b (yes q) = p.none i a q
      go i a b (no q) = let same : i ≡ at = omega arith in rw same e

  pub passed_all : (at : ℕ) → Passed at → (at ≡ length s) ⊎ (whole_at l (drop at s) ≡ 0 → ⊥) → Gap l s from at
  passed_all at p stops = record { low = p.low; high = p.high; none = p.none; stops = stops }

  -- Whole units stand up to the position.
  pub record Kept (at : ℕ) : Type 0 where
    pub low : from ≤ at
    pub high : at ≤ length s
    pub bytes : kept_from l s from ≡ take (at - from) (drop from s) ++ kept_from l s at
    pub runs : runs_from l s from ≡ runs_from l s at

  pub kept_none : from ≤ length s → Kept from
  kept_none h = let none : from - from ≡ 0 = omega arith in record { low = omega arith; high = h; bytes = rw none; runs = refl }

  pub kept_on : (at k : ℕ) → Kept at → k ≡ whole_at l (drop at s) → k ≤ length (drop at s) → (k ≡ 0 → ⊥) → Kept (at + k)
  unfolding kept_bytes runs_of
  kept_on at zero p e room some = absurd (some refl)
  kept_on at (suc k) p e room some =
      let few : suc k ≤ length s - at = simp length-drop at room in
      let h : at < length s = omega arith in
      let step = keep_at l s at k h (sym e) in
      let long : at + suc k - at ≡ suc k = omega arith in
      let sum : at + suc k - from ≡ (at - from) + suc k = omega (arith, p.low) in
      let there : from + (at - from) ≡ at = omega (arith, p.low) in
      let bytes : kept_from l s at ≡ take (suc k) (drop at s) ++ kept_from l s (at + suc k) = rw step (rw long) in
      record {
        low = omega (arith, p.low);
        high = omega arith;
        bytes = p.bytes ∙ rw (bytes, sum, take-add (at - from) (suc k) (drop from s), drop-drop, there) (simp append_assoc);
        runs = p.runs ∙ rw step;
      }

  pub kept_all : (at : ℕ) → Kept at → (at ≡ length s) ⊎ (whole_at l (drop at s) ≡ 0) → Span l s from at
  kept_all at p stops = record { low = p.low; high = p.high; bytes = p.bytes; runs = p.runs; stops = stops }
