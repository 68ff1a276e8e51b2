-- The parts of a place with a unit more.
use Rattle.std.specs.Prelude.{ℕ, cond, eqb, Option, Some, None}
use Rattle.cdf_unit_table.specs.States.{some_state}
use Rattle.cdf_builder_spec.specs.declared.Begun.{Begun}
use Rattle.cdf_builder_spec.specs.declared.Parts.{Parts}

-- With so many bytes, so many units left open, `top` the innermost of them, and the new one in its first state, if it has one. The last
-- slot is taken for a third and, since there is no other, for any further one.
abbrev pub entered_in : Parts → ℕ → Begun → ℕ → Option ℕ → Parts
entered_in p count top written None =
    record { written = written; units = record { count = count; top = top; o1 = p.units.o1; o2 = p.units.o2; o3 = p.units.o3 } }
entered_in p count top written (Some state) =
    let inner : Begun = record { state = state; start = p.written } in
    cond (eqb count 1) (record { written = written; units = record { count = 2; top = inner; o1 = top; o2 = p.units.o2; o3 = p.units.o3 } })
    (cond (eqb count 2) (record { written = written; units = record { count = 3; top = inner; o1 = p.units.o1; o2 = top; o3 = p.units.o3 } })
    (record { written = written; units = record { count = 4; top = inner; o1 = p.units.o1; o2 = p.units.o2; o3 = top } }))

-- The same by the number of that state, which is 0 where there is none.
abbrev pub entered_by : Parts → ℕ → Begun → ℕ → ℕ → Parts
entered_by p count top written first = entered_in p count top written (some_state first)
