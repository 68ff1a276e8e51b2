-- A builder's place as ten numbers, by name, and what a list is told in them.
use Rattle.std.specs.Prelude.{List, ℕ}
use Rattle.cdf_builder_spec.specs.Place.{BuilderPlace}
use Rattle.cdf_builder_spec.specs.declared.Parts.{Parts}
use Rattle.cdf_builder.specs.View.{view}
use Rattle.cdf_builder.specs.declared.Builder.{Builder}
use Rattle.cdf_batch_spec.specs.Batches.{Outcome}
use Rattle.cdf_batch_turn.specs.declared.PlaceNumbers.{PlaceNumbers}
use Rattle.cdf_batch_turn.specs.declared.Batched.{Batched}

abbrev pub builder_from : PlaceNumbers → Builder
builder_from p = record {
  written = p.written;
  units = record {
    count = p.count;
    top = record { state = p.state; start = p.start };
    o1 = record { state = p.state1; start = p.start1 };
    o2 = record { state = p.state2; start = p.start2 };
    o3 = record { state = p.state3; start = p.start3 };
  };
}

-- The place that they are.
abbrev pub viewed : PlaceNumbers → BuilderPlace
viewed p = view (builder_from p)

-- The same by its parts, and back.
abbrev pub parts_from : PlaceNumbers → Parts
parts_from p =
    let b : Builder = builder_from p in
    record { written = b.written; units = b.units }

abbrev pub numbers_from : Parts → PlaceNumbers
numbers_from p = record {
  written = p.written;
  count = p.units.count;
  state = p.units.top.state;
  start = p.units.top.start;
  state1 = p.units.o1.state;
  start1 = p.units.o1.start;
  state2 = p.units.o2.state;
  start2 = p.units.o2.start;
  state3 = p.units.o3.state;
  start3 = p.units.o3.start;
}

-- What a list is told, with the buffer as it then is.
abbrev pub outcome_of : Batched → List ℕ → Outcome
outcome_of q s = record { number = q.number; rank = q.rank; place = viewed q.place; buffer = s }
