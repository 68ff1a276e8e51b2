-- A next that hands out a unit comes further, and not past the end: so a run of nexts ends.
use Rattle.std.proofs.Common.{ℕ, suc, ◌-◌, ◌≤◌, ◌<◌, ◌≡◌, refl, Bool, true, false, cond, not, List, [], arith, eqb-true, eq-eqb, eqb, length}
use Rattle.std.proofs.lemmas.Bool.{not-false}
use Rattle.cdf_unit_table.proofs.Bools.{of_cond}
use Rattle.cdf_unit_prefix.specs.Layout.{Layout}
use Rattle.cdf_unit_list.specs.Stack.{Step, done, refused, found, step}
use Rattle.cdf_unit_list.proofs.Few.{Further, step_further, unit_further}
use Rattle.cdf_reader_spec.specs.Place.{ReaderPlace, is_empty, fits}
use Rattle.cdf_reader_spec.specs.Calls.{Reply, empty_place, refuse, stepped, first_of, next_of}
use Rattle.cdf_reader_spec.proofs.Replying.{start, first_is, next_tests}
use Rattle.cdf_reader_runs.proofs.Keeps.{Keeps, first_keeps, next_keeps}

module _ (l : Layout) (s : List ℕ) where
  -- If the number is 0, the new position is past the old one and in the bytes.
  abbrev Later : ℕ → Reply → Type 0
  Later pos r = r.number ≡ 0 → (pos < r.place.position) × (r.place.position ≤ length s)

  stepped_later : (pos : ℕ) (p : ReaderPlace) (x : Step) → Further l s pos x → Keeps l s p x → Later pos (stepped p x)
  unfolding stepped
  stepped_later pos p done f k e = absurd (omega arith)
  stepped_later pos p (refused n at) f k e = absurd (k e)
  stepped_later pos p (found u os later) f k e = omega arith

  pub first_later : Later 0 (first_of l s)
  first_later =
      rw first_is (stepped_later 0 empty_place (start l s) (unit_further l s 0 true 0 s (λ state. []) (omega arith)) (first_keeps l s))

  pub next_later : (p : ReaderPlace) → Later p.position (next_of l s p)
  next_later p =
      rw next_tests
      (of_cond (Later p.position) (is_empty p) (refuse 11 0 p) _ (λ e z. absurd (omega arith))
      (λ e. of_cond (Later p.position) (not (fits l (length s) p)) (refuse 2 0 p) _ (λ f z. absurd (omega arith))
      (λ f. stepped_later p.position p (step l s p.units p.position) (step_further l s p.position p.units)
      (next_keeps l s p (not-false (fits l (length s) p) f)))))

  -- What is left of a run after an answer.
  abbrev pub ahead : ℕ → ℕ → ℕ
  ahead number position = cond (eqb number 0) (suc (length s - position)) 0

  pub less : (number position : ℕ) (r : Reply) → number ≡ 0 → position ≤ length s → Later position r →
      ahead r.number r.place.position < ahead number position
  less number position r z h later = rw (eq-eqb number 0 z) (go (eqb r.number 0) refl)
    where
      go : (b : Bool) → eqb r.number 0 ≡ b → cond b (suc (length s - r.place.position)) 0 < suc (length s - position)
      go true e = omega (arith, later (eqb-true r.number 0 e))
      go false e = omega arith
