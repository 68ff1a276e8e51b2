-- What a call of a run and a whole run answer, where every call is done.
use Rattle.std.proofs.Common.{◌≤◌, ◌≡◌, refl, sym, ap, ◌∙◌, true, List, [], ◌∷◌, ◌++◌, length}
use Rattle.cdf_unit_prefix.specs.Layout.{Layout}
use Rattle.cdf_builder_write.specs.Patch.{patch}
use Rattle.cdf_builder_spec.specs.Place.{fits}
use Rattle.cdf_builder_spec.specs.Requests.{Request, bytes_for, refused, grown}
use Rattle.cdf_builder_spec.specs.Calls.{Reply, lengths, write_of, call_number}
use Rattle.cdf_builder_spec.specs.Orders.{size_with}
use Rattle.cdf_builder_spec.proofs.Replying.{call_number_lem, call_fit, call_zero, call_done, call_length}
use Rattle.cdf_builder_spec.proofs.Keeping.{call_fits}
use Rattle.cdf_builder_runs.specs.Runs.{answer, run, AllDone}
use Rattle.cdf_builder_runs.proofs.Admitted.{place_after}

module _ (l : Layout) where
  -- The place that is answered fits the buffer.
  abbrev pub Fit : Reply → Type 0
  Fit a = fits l (length a.buffer) a.place ≡ true

  module _ (a : Reply) (r : Request) where
    pub answer_length : length (answer l a r).buffer ≡ length a.buffer
    answer_length = call_length l a.buffer a.place r

    module _ (done : (answer l a r).number ≡ 0) where
      call : call_number l (length a.buffer) a.place r ≡ 0
      call = sym (call_number_lem l a.buffer a.place r) ∙ done

      -- What its number 0 tells: the place fits, the request is admitted, and there is room for it.
      pub answer_fit : Fit a
      answer_fit = call_fit l (length a.buffer) a.place r call

      pub answer_called : (refused l a.place.units r 0 ≡ 0)
          × (size_with l a.place r ≤ l.limit) × (size_with l a.place r ≤ length a.buffer)
      answer_called = (call_zero l (length a.buffer) a.place r answer_fit).0 call

      pub answer_fits : Fit (answer l a r)
      answer_fits = call_fits l a.buffer a.place r done

      pub answer_place : (answer l a r).place ≡ grown l a.place r
      answer_place = rw (call_done l a.buffer a.place r done)

      -- What is written: the request's bytes where the writing stands, and the lengths of the units that are then open.
      pub answer_buffer : (answer l a r).buffer
          ≡ lengths l (grown l a.place r).written (grown l a.place r).units (patch a.place.written (bytes_for l r) a.buffer)
      unfolding write_of
      answer_buffer = rw (call_done l a.buffer a.place r done)

  -- Of all that are done the first is.
  pub first_done : (a : Reply) (rs : List Request) → AllDone l a rs → a.number ≡ 0
  first_done a [] d = d
  first_done a (r ∷ rs) d = d.0

  pub run_length : (a : Reply) (rs : List Request) → length (run l a rs).buffer ≡ length a.buffer
  unfolding run
  run_length a [] = refl
  run_length a (r ∷ rs) = run_length (answer l a r) rs ∙ answer_length a r

  pub run_place : (a : Reply) (rs : List Request) → AllDone l a rs → (run l a rs).place ≡ place_after l a.place rs
  unfolding run place_after
  run_place a [] d = refl
  run_place a (r ∷ rs) d =
      run_place (answer l a r) rs d.1 ∙ ap (λ q. place_after l q rs) (answer_place a r (first_done (answer l a r) rs d.1))

  -- After calls that are done the place fits.
  pub run_fits : (rs : List Request) (a : Reply) → Fit a → AllDone l a rs → Fit (run l a rs)
  unfolding run
  run_fits [] a fit d = fit
  run_fits (r ∷ rs) a fit d = run_fits rs (answer l a r) (answer_fits a r (first_done (answer l a r) rs d.1)) d.1

  -- Calls that are done, and more after them.
  pub done_front : (a : Reply) (xs ys : List Request) → AllDone l a (xs ++ ys) → AllDone l a xs
  done_front a [] ys d = first_done a ys d
  done_front a (x ∷ xs) ys d = (d.0, done_front (answer l a x) xs ys d.1)

  pub done_after : (a : Reply) (xs ys : List Request) → AllDone l a (xs ++ ys) → AllDone l (run l a xs) ys
  unfolding run
  done_after a [] ys d = d
  done_after a (x ∷ xs) ys d = done_after (answer l a x) xs ys d.1

  pub done_on : (a : Reply) (xs : List Request) (r : Request) → AllDone l a xs → (answer l (run l a xs) r).number ≡ 0 → AllDone l a (xs ++ (r ∷ []))
  unfolding run
  done_on a [] r d e = (d, e)
  done_on a (x ∷ xs) r d e = (d.0, done_on (answer l a x) xs r d.1 e)
