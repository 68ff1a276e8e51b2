-- NEXT by any judge: 11 where no unit is open, 2 where the place does not fit, else a step.
use Rattle.std.specs.Prelude.{ℕ, not, cond, List, length}
use Rattle.cdf_unit_prefix.specs.Layout.{Layout}
use Rattle.cdf_unit_judge.specs.Judge.{Judged}
use Rattle.cdf_reader_spec.specs.Place.{ReaderPlace, is_empty, fits}
use Rattle.cdf_reader_spec.specs.Calls.{Reply, refuse}
use Rattle.cdf_reader_advance.specs.Advancing.{advanced_with}

unfoldable pub next_with : (ℕ → List ℕ → Judged) → Layout → List ℕ → ReaderPlace → Reply
unfolding is_empty fits advanced_with
next_with judge l s p =
    cond (is_empty p) (refuse 11 0 p) (cond (not (fits l (length s) p)) (refuse 2 0 p) (advanced_with judge s p))
