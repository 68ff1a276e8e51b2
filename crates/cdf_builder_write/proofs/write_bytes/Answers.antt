-- The tail that is lent begins at the writing place, where there is room.
use Rattle.std.proofs.Common.{refl, sym, ◌∙◌, ◌+◌, ◌≤◌, arith, leb-true, length}
use Rattle.cdf_builder_copy.proofs.Onto.{onto_lent}
use Rattle.cdf_builder_write.proofs.Lent.{wrote, stayed}
use Rattle.cdf_builder_write.proofs.write_bytes.Goals as goal
use Rattle.cdf_builder_write.proofs.write_bytes.Goals.{Then-has_room}

room : (c : Then-has_room) →
    let a = c.args in
    a.at + length a.bytes.now ≤ length a.buffer.now
room c = leb-true _ _ (sym c.has_room.ensures ∙ c.if-has_room.true)

pub slice_bounds-copy-count : goal.slice_bounds-copy-count
slice_bounds-copy-count c = omega (arith, room (goal.at.slice_bounds-copy-count c).Then-has_room)

pub slice_bounds-copy-start : goal.slice_bounds-copy-start
slice_bounds-copy-start c = omega (arith, room (goal.at.slice_bounds-copy-start c).Then-has_room)

pub returns-then-has_room : goal.returns-then-has_room
returns-then-has_room c =
    let a = c.args in
    wrote a.at _ a.bytes.now a.buffer.now refl _ c.has_room.ensures c.if-has_room.true c.copy.new.tail
    (c.copy.ensures ∙ onto_lent a.at a.bytes.now a.buffer.now (room (goal.at.returns-then-has_room c).Then-has_room))

pub returns-else-has_room : goal.returns-else-has_room
returns-else-has_room c =
    let a = c.args in
    stayed a.at _ a.bytes.now a.buffer.now refl _ c.has_room.ensures c.if-has_room.false
