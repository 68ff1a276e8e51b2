-- The builder's places as the numbers that cross to C.
use Rattle.std.specs.Prelude.{ℕ, List, [], ◌∷◌, get_or, Result, Ok, Err}
use Rattle.cdf_refusal.specs.declared.Refusal.{Refusal}
use Rattle.cdf_unit_prefix.specs.Layout.{layout_of}
use Rattle.cdf_unit_prefix.specs.declared.Edition.TheVariants.{First}
use Rattle.cdf_builder_spec.specs.Requests.{Request}
use Rattle.cdf_builder_spec.specs.Calls.{Reply, call_of}
use Rattle.cdf_builder_spec.specs.declared.Begun.{Begun}
use Rattle.cdf_builder.specs.View.{view}
use Rattle.cdf_builder.specs.declared.Builder.{Builder}

-- The state and the start of an open unit.
abbrev pub begun_from : List ℕ → ℕ → ℕ → Begun
begun_from a i j = record { state = get_or a i 0; start = get_or a j 0 }

-- The place that ten numbers are: the bytes written; how many units are open; the innermost open unit, then the others from the root
-- inwards.
abbrev pub builder_from : List ℕ → Builder
builder_from a = record {
  written = get_or a 0 0;
  units = record {
    count = get_or a 1 0;
    top = begun_from a 2 3;
    o1 = begun_from a 4 5;
    o2 = begun_from a 6 7;
    o3 = begun_from a 8 9;
  };
}

-- The numbers that are written of a place.
abbrev pub numbers_of : Builder → List ℕ
numbers_of p =
    p.written
    ∷ p.units.count
    ∷ p.units.top.state
    ∷ p.units.top.start
    ∷ p.units.o1.state
    ∷ p.units.o1.start
    ∷ p.units.o2.state
    ∷ p.units.o2.start
    ∷ p.units.o3.state
    ∷ p.units.o3.start
    ∷ []

-- What is left of a place's numbers where this is answered: a refusal keeps them.
abbrev pub stored : Result Builder Refusal → List ℕ → List ℕ
stored (Ok p) before = numbers_of p
stored (Err r) before = before

-- What a call told and left: its number, the place by its view, and the buffer.
abbrev pub reply_from : ℕ → List ℕ → List ℕ → Reply
reply_from number place buffer = record { number = number; place = view (builder_from place); buffer = buffer }

-- The reply to a request at the place that these numbers are.
abbrev pub call_from : List ℕ → List ℕ → Request → Reply
call_from buffer place r = call_of (layout_of First) buffer (view (builder_from place)) r
