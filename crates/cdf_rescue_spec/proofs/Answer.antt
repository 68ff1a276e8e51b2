-- A rescue answers 0 if what was kept passes the five tests, and only then.
use Rattle.std.proofs.Common.{ℕ, ◌+◌, ◌≤◌, ◌≡◌, refl, Bool, true, false, cond, List, [], arith, ltb-false, le-ltb, ne_eqb, ltb, eqb, length}
use Rattle.std.proofs.lemmas.Bool.{eqb-false}
use Rattle.cdf_unit_table.specs.Ids.{er_group}
use Rattle.cdf_unit_prefix.specs.Layout.{Layout, prefix_of}
use Rattle.cdf_grammar.specs.Encoding.{unit_bytes}
use Rattle.cdf_rescue_spec.specs.Salvage.{pieces, kept_bytes, runs_of, Rescued, most_runs, group_of, rescued, rescue_of}
use Rattle.cdf_rescue_spec.specs.declared.Run.{Run}

-- To unfold these would unfold the pieces and the prefix too.
pub rescue_is : (l : Layout) (room : ℕ) (s : List ℕ) →
    rescue_of l room s ≡ rescued l room s (kept_bytes s (pieces l s)) (runs_of (pieces l s))
unfolding rescue_of
rescue_is l room s = refl

pub group_is : (l : Layout) (inner : List ℕ) → group_of l inner ≡ unit_bytes l er_group 0 [] inner
unfolding group_of
group_is l inner = refl

module _ (l : Layout) (room : ℕ) (s inner : List ℕ) (runs : List Run) where
  pub record Passed : Type 0 where
    pub enough : prefix_of l ≤ length s
    pub some : length inner ≡ 0 → ⊥
    pub few : length runs ≤ most_runs
    pub within : prefix_of l + length inner ≤ l.limit
    pub fits : prefix_of l + length inner ≤ room

  pub passed : (rescued l room s inner runs).number ≡ 0 → Passed
  unfolding rescued
  passed e =
      let a = past_number (ltb (length s) (prefix_of l)) _ _ (λ z. omega arith) e in
      let b = past_number (eqb (length inner) 0) _ _ (λ z. omega arith) a.1 in
      let c = past_number (ltb most_runs (length runs)) _ _ (λ z. omega arith) b.1 in
      let d = past_number (ltb l.limit (prefix_of l + length inner)) _ _ (λ z. omega arith) c.1 in
      let f = past_number (ltb room (prefix_of l + length inner)) _ _ (λ z. omega arith) d.1 in
      record {
        enough = ltb-false (length s) (prefix_of l) a.0;
        some = eqb-false (length inner) 0 b.0;
        few = ltb-false most_runs (length runs) c.0;
        within = ltb-false l.limit (prefix_of l + length inner) d.0;
        fits = ltb-false room (prefix_of l + length inner) f.0;
      }
    where
      past_number : (b : Bool) (r x : Rescued) → (r.number ≡ 0 → ⊥) → (cond b r x).number ≡ 0 → (b ≡ false) × (x.number ≡ 0)
      past_number true r x some e = absurd (some e)
      past_number false r x some e = (refl, e)

  pub answers : Passed → rescued l room s inner runs ≡ record { number = 0; runs = runs; group = group_of l inner }
  unfolding rescued
  answers p =
      rw (
        le-ltb (length s) (prefix_of l) p.enough,
        ne_eqb (length inner) 0 p.some,
        le-ltb most_runs (length runs) p.few,
        le-ltb l.limit (prefix_of l + length inner) p.within,
        le-ltb room (prefix_of l + length inner) p.fits,
      )
