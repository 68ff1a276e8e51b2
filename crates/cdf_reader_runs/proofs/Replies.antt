-- The calls from a place that fits and from the empty one; every place that they return with 0 fits.
use Rattle.std.proofs.Common.{ℕ, ◌≡◌, true, not, List, arith, length}
use Rattle.std.proofs.lemmas.Bool.{not-false}
use Rattle.cdf_unit_table.proofs.Bools.{of_cond}
use Rattle.cdf_unit_prefix.specs.Layout.{Layout}
use Rattle.cdf_unit_list.specs.Stack.{Step, done, refused, found, step}
use Rattle.cdf_reader_spec.specs.Place.{ReaderPlace, is_empty, fits}
use Rattle.cdf_reader_spec.specs.Calls.{Reply, empty_place, refuse, stepped, first_of, next_of}
use Rattle.cdf_reader_spec.proofs.Replying.{start, first_is, next_tests}
use Rattle.cdf_reader_runs.proofs.Keeps.{Keeps, first_keeps, next_keeps}

module _ (l : Layout) (s : List ℕ) where
  -- The empty place has no next.
  pub next_empty : next_of l s empty_place ≡ refuse 11 0 empty_place
  unfolding is_empty
  next_empty = rw next_tests

  -- If the number is 0, the place fits.
  abbrev Fits : Reply → Type 0
  Fits r = r.number ≡ 0 → fits l (length s) r.place ≡ true

  -- A step that keeps this gives such an answer, so that every call does.
  stepped_fits : (p : ReaderPlace) (x : Step) → Keeps l s p x → Fits (stepped p x)
  unfolding stepped
  stepped_fits p done k z = absurd (omega arith)
  stepped_fits p (refused n at) k z = absurd (k z)
  stepped_fits p (found u os pos) k z = k

  pub first_fits : Fits (first_of l s)
  first_fits = rw first_is (stepped_fits empty_place (start l s) (first_keeps l s))

  pub next_fits : (p : ReaderPlace) → Fits (next_of l s p)
  next_fits p =
      rw next_tests
      (of_cond Fits (is_empty p) (refuse 11 0 p) _ (λ e z. absurd (omega arith))
      (λ e. of_cond Fits (not (fits l (length s) p)) (refuse 2 0 p) _ (λ f z. absurd (omega arith))
      (λ f. stepped_fits p (step l s p.units p.position) (next_keeps l s p (not-false (fits l (length s) p) f)))))
