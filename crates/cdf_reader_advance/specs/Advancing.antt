-- A step at any place: what NEXT does, without the test of the place, and where it cannot be done a number of its own. At a place that fits it
-- is NEXT (a claim of cdf_reader), so loops over places that the library made go by it.
use Rattle.std.specs.Prelude.{ℕ, suc, Bool, true, false, cond, ◌&&◌, ◌||◌, List, [], ◌∷◌, leb, ltb, eqb, length}
use Rattle.cdf_unit_prefix.specs.Layout.{Layout}
use Rattle.cdf_unit_data.specs.Data.{NameBytes, name_bytes}
use Rattle.cdf_unit_judge.specs.Judge.{judge_in, Judged}
use Rattle.cdf_unit_list.specs.Stack.{Step, done, refused, found, step_with}
use Rattle.cdf_unit_list.specs.declared.Open.{Open}
use Rattle.cdf_reader_spec.specs.Place.{ReaderPlace}
use Rattle.cdf_reader_spec.specs.Closing.{unclosed}
use Rattle.cdf_reader_spec.specs.Ranking.{rank_after}
use Rattle.cdf_reader_spec.specs.Calls.{Reply, refuse, stepped}

-- The number where no step can be done: none that a call gives.
abbrev pub no_step : ℕ
no_step = 99

-- The position lies inside the unit, and the unit in the n bytes.
abbrev pub is_inside : ℕ → ℕ → Open → Bool
is_inside n pos o = ltb o.start pos && (ltb pos o.end && leb o.end n)

-- So it is in the innermost of the units that closing leaves. Where none is left, and at its end, no bytes are read.
unfoldable pub has_bytes : ℕ → ℕ → List Open → Bool
has_bytes n pos [] = true
has_bytes n pos (o ∷ os) = eqb o.end pos || is_inside n pos o

-- One above the rank before the next: that of the outermost unit that closes at the position, else the last one's.
unfoldable pub rank_on : ReaderPlace → ℕ
unfolding rank_after
rank_on p = rank_after p.units p.ranks p.position (suc p.last_rank)

-- Behind a unit that is found at most four units are open, as many as a struct holds, and the rank before is below the position.
unfoldable pub has_room : ReaderPlace → Step → Bool
unfolding rank_on
has_room p done = true
has_room p (refused n at) = true
has_room p (found u os pos) = leb (length os) 4 && leb (rank_on p) p.position

-- By any judge of a nested unit.
unfoldable pub advanced_with : (ℕ → List ℕ → Judged) → List ℕ → ReaderPlace → Reply
unfolding step_with unclosed has_bytes has_room stepped
advanced_with judge s p =
    let next = step_with judge s p.units p.position in
    cond (has_bytes (length s) p.position (unclosed p.units p.position) && has_room p next) (stepped p next) (refuse no_step 0 p)

-- By the bytes that may stand in a name.
abbrev pub advanced_by : NameBytes → Layout → List ℕ → ReaderPlace → Reply
advanced_by w l = advanced_with (judge_in w l false)

-- With 01's.
abbrev pub advanced : Layout → List ℕ → ReaderPlace → Reply
advanced = advanced_by name_bytes
