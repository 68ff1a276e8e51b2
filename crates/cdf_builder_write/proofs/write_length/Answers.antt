-- The tail that is lent begins behind the mark, where there is room.
use Rattle.std.proofs.Common.{◌≡◌, sym, ◌∙◌, ℕ, ◌+◌, ◌≤◌, arith, leb-true, length, length-drop}
use Rattle.cdf_unit_table.proofs.Parts.{rest}
use Rattle.cdf_grammar.specs.Encoding.{bytes_of}
use Rattle.cdf_grammar.proofs.Numbers.{length_bytes_lem}
use Rattle.cdf_builder_write.proofs.Lent.{wrote, stayed}
use Rattle.cdf_builder_write.proofs.write_length.Goals as goal
use Rattle.cdf_builder_write.proofs.write_length.Goals.{Then-has_room}

room : (c : Then-has_room) →
    let a = c.args in
    a.start + (c.length_bytes-width.result + 2) ≤ length a.buffer.now
room c = leb-true _ _ (sym c.has_room.ensures ∙ c.if-has_room.true)

pub overflow_add-width : goal.overflow_add-width
overflow_add-width c = omega (arith, c.length_bytes-width.ensures.few)

pub overflow_add-at : goal.overflow_add-at
overflow_add-at c = omega (arith, room (goal.at.overflow_add-at c).Then-has_room)

pub slice_bounds-put_number-count : goal.slice_bounds-put_number-count
slice_bounds-put_number-count c = omega (arith, room (goal.at.slice_bounds-put_number-count c).Then-has_room)

pub slice_bounds-put_number-start : goal.slice_bounds-put_number-start
slice_bounds-put_number-start c = omega (arith, room (goal.at.slice_bounds-put_number-start c).Then-has_room)

pub put_number-requires : goal.put_number-requires
put_number-requires c = rw (rest, length-drop) (omega (arith, room (goal.at.put_number-requires c).Then-has_room))

-- The mark stands between.
behind : (start k : ℕ) → start + (k + 2) ≡ start + 2 + k
behind start k = omega arith

pub returns-then-has_room : goal.returns-then-has_room
returns-then-has_room c =
    let a = c.args in
    let k = c.length_bytes-width.result in
    rw (← c.length_bytes-width.ensures.is)
    (wrote (a.start + 2) k (bytes_of k a.len) a.buffer.now (length_bytes_lem k a.len) _
    (rw (behind a.start k) at c.has_room.ensures) c.if-has_room.true c.put_number.new.tail c.put_number.ensures)

pub returns-else-has_room : goal.returns-else-has_room
returns-else-has_room c =
    let a = c.args in
    let k = c.length_bytes-width.result in
    rw (← c.length_bytes-width.ensures.is)
    (stayed (a.start + 2) k (bytes_of k a.len) a.buffer.now (length_bytes_lem k a.len) _
    (rw (behind a.start k) at c.has_room.ensures) c.if-has_room.false)
