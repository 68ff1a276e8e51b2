-- Which place a refused call gives back.
use Rattle.std.proofs.Common.{◌≡◌, refl, sym, true, true≢false}
use Rattle.cdf_reader_spec.specs.Calls.{is_start}
use Rattle.cdf_reader_spec.specs.declared.Call.{Call}
use Rattle.cdf_reader_spec.specs.declared.Call.TheVariants.{Start, Next, Skip, GetStream, Previous}
use Rattle.cdf_reader.specs.View.{no_place}
use Rattle.cdf_reader.specs.Uses.{place_kept}
use Rattle.cdf_reader.specs.declared.Place.{Place}

-- A start gives the empty place.
pub cleared : (c : Call) → is_start c ≡ true → (p : Place) → place_kept c p ≡ no_place
cleared Start e p = refl
cleared Next e p = absurd (true≢false (sym e))
cleared Skip e p = absurd (true≢false (sym e))
cleared GetStream e p = absurd (true≢false (sym e))
cleared Previous e p = absurd (true≢false (sym e))
