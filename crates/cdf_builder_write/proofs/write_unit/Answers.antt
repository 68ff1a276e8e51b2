-- The tail that is lent begins at the writing place, where there is room.
use Rattle.std.proofs.Common.{sym, ◌∙◌, [], ◌+◌, ◌≤◌, arith, leb-true, length, length-drop}
use Rattle.cdf_unit_prefix.specs.Layout.{layout_of, prefix_of}
use Rattle.cdf_unit_table.proofs.Parts.{rest}
use Rattle.cdf_grammar.specs.Encoding.{unit_bytes}
use Rattle.cdf_builder_write.proofs.Lent.{wrote, stayed, length_alone}
use Rattle.cdf_builder_write.proofs.write_unit.Goals as goal
use Rattle.cdf_builder_write.proofs.write_unit.Goals.{Then-has_room}

room : (c : Then-has_room) →
    let a = c.args in
    a.at + (c.prefix.result + length a.«data».now) ≤ length a.buffer.now
room c = leb-true _ _ (sym c.has_room.ensures ∙ c.if-has_room.true)

pub slice_bounds-put_unit-count : goal.slice_bounds-put_unit-count
slice_bounds-put_unit-count c = omega (arith, room (goal.at.slice_bounds-put_unit-count c).Then-has_room)

pub slice_bounds-put_unit-start : goal.slice_bounds-put_unit-start
slice_bounds-put_unit-start c = omega (arith, room (goal.at.slice_bounds-put_unit-start c).Then-has_room)

pub put_unit-requires : goal.put_unit-requires
put_unit-requires c = rw (rest, length-drop) (omega (arith, room (goal.at.put_unit-requires c).Then-has_room, c.prefix.ensures.is))

pub returns-then-has_room : goal.returns-then-has_room
returns-then-has_room c =
    let a = c.args in
    let l = layout_of a.edition in
    let text = a.«data».now in
    wrote a.at (prefix_of l + length text) (unit_bytes l a.id a.action text []) a.buffer.now (length_alone l a.id a.action text) _
    (rw c.prefix.ensures.is at c.has_room.ensures) c.if-has_room.true c.put_unit.new.tail c.put_unit.ensures

pub returns-else-has_room : goal.returns-else-has_room
returns-else-has_room c =
    let a = c.args in
    let l = layout_of a.edition in
    let text = a.«data».now in
    stayed a.at (prefix_of l + length text) (unit_bytes l a.id a.action text []) a.buffer.now (length_alone l a.id a.action text) _
    (rw c.prefix.ensures.is at c.has_room.ensures) c.if-has_room.false
