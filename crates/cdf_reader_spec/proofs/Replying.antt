-- The calls over steps. To unfold a call would unfold the judge and the rows too, so these equations stand for that.
use Rattle.std.proofs.Common.{ℕ, ◌-◌, ◌≡◌, refl, Bool, true, not, cond, ◌&&◌, List, [], arith, ne_eqb, eqb, length}
use Rattle.cdf_unit_prefix.specs.Layout.{Layout}
use Rattle.cdf_unit_judge.specs.Judge.{judge_of}
use Rattle.cdf_unit_list.specs.Stack.{Step, found, entered, step}
use Rattle.cdf_unit_list.specs.declared.Unit.{Unit}
use Rattle.cdf_unit_list.specs.declared.Open.{Open}
use Rattle.cdf_reader_spec.specs.Place.{ReaderPlace, is_empty, fits}
use Rattle.cdf_reader_spec.specs.Calls.{empty_place, refuse, move_to, give, place_at, stepped, first_of, next_of, previous_of}
use Rattle.cdf_reader_spec.specs.Calls.{untouched, passed, passing, skip_of, is_group, take_of, part_of, call_of}
use Rattle.cdf_reader_spec.specs.declared.Call.TheVariants.{Start, Next, Skip, GetStream, Previous}
use Rattle.cdf_reader_spec.proofs.Fitting.{fitting}

-- The step that a start takes.
abbrev pub start : Layout → List ℕ → Step
start l s = entered 0 (λ state. []) (judge_of l true 0 s)

-- A unit that a step finds is handed out.
pub found_is : (p : ReaderPlace) (u : Unit) (os : List Open) (pos : ℕ) → stepped p (found u os pos) ≡ give (place_at p u os pos)
unfolding stepped
found_is p u os pos = refl

module _ (l : Layout) (s : List ℕ) where
  -- A start is its step, from the empty place.
  pub first_is : first_of l s ≡ stepped empty_place (start l s)
  unfolding first_of
  first_is = refl

  -- A next is two tests and a step.
  pub next_tests : (p : ReaderPlace) →
      next_of l s p
      ≡ cond (is_empty p) (refuse 11 0 p)
      (cond (not (fits l (length s) p)) (refuse 2 0 p) (stepped p (step l s p.units p.position)))
  unfolding next_of
  next_tests p = refl

  -- From a place that fits, which is not empty, it is the step.
  pub next_is : (p : ReaderPlace) → fits l (length s) p ≡ true → next_of l s p ≡ stepped p (step l s p.units p.position)
  unfolding is_empty
  next_is p e =
      rw (next_tests p, ne_eqb (length p.units) 0 (λ z. omega (arith, (fitting l (length s) p e).some)), e)

  pub previous_tests : (p : ReaderPlace) →
      previous_of l s p
      ≡ cond (is_empty p) (refuse 11 0 p)
      (cond (not (fits l (length s) p)) (refuse 2 0 p) (give p))
  unfolding previous_of
  previous_tests p = refl

  -- What passes the last unit is two tests.
  pub passing_tests : (p : ReaderPlace) (may : Bool) →
      passing l s p may ≡ cond (not may) (refuse 11 0 p) (cond (not (fits l (length s) p)) (refuse 2 0 p) (move_to (passed p)))
  unfolding passing
  passing_tests p may = refl

  pub skip_is : (p : ReaderPlace) → skip_of l s p ≡ passing l s p (untouched p)
  unfolding skip_of
  skip_is p = refl

  pub take_is : (p : ReaderPlace) → take_of l s p ≡ passing l s p (untouched p && is_group p.last.id)
  unfolding take_of
  take_is p = refl

  pub part_is : (p : ReaderPlace) →
      part_of l s p
      ≡ cond (eqb (take_of l s p).number 0) (record { start = p.last.start; size = p.last.end - p.last.start })
      (record { start = 0; size = 0 })
  unfolding part_of
  part_is p = refl

  -- Each call by its name.
  module _ (p : ReaderPlace) where
    pub start_named : call_of l s p Start ≡ first_of l s
    unfolding call_of
    start_named = refl

    pub next_named : call_of l s p Next ≡ next_of l s p
    unfolding call_of
    next_named = refl

    pub skip_named : call_of l s p Skip ≡ skip_of l s p
    unfolding call_of
    skip_named = refl

    pub take_named : call_of l s p GetStream ≡ take_of l s p
    unfolding call_of
    take_named = refl

    pub previous_named : call_of l s p Previous ≡ previous_of l s p
    unfolding call_of
    previous_named = refl
