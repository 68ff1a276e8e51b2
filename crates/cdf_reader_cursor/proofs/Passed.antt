-- The place past the last unit, by the parts of a cursor.
use Rattle.std.proofs.Common.{ℕ, zero, suc, ◌≡◌, refl, false}
use Rattle.cdf_unit_table.specs.States.{skipped}
use Rattle.cdf_unit_list.specs.Stack.{with_state}
use Rattle.cdf_unit_list.specs.declared.Open.{Open}
use Rattle.cdf_reader_spec.specs.Calls.{skipped_top, passed}
use Rattle.cdf_reader_spec.specs.Slots.{open_units, place_of}
use Rattle.cdf_reader_cursor.specs.Outcomes.{cursor_place}
use Rattle.cdf_reader_cursor.specs.declared.Cursor.{Cursor}

skipped_top_lem : (count : ℕ) (top o1 o2 o3 : Open) →
    skipped_top (open_units count top o1 o2 o3) ≡ open_units count (with_state top (skipped top.state)) o1 o2 o3
unfolding skipped_top open_units
skipped_top_lem zero top o1 o2 o3 = refl
skipped_top_lem (suc k) top o1 o2 o3 = refl

pub passed_is : (c : Cursor) →
    passed (cursor_place c)
    ≡ place_of c.last.end c.units.count (with_state c.units.top (skipped c.units.top.state)) c.units.o1 c.units.o2 c.units.o3 c.last false c.ranks
unfolding passed
passed_is c = rw (skipped_top_lem c.units.count c.units.top c.units.o1 c.units.o2 c.units.o3)
