-- A call is named by what it puts: `refused`, `number`, `at`, `offset`, `feed`.
use Rattle.std.proofs.Common.{arith}
use Rattle.cdf_listing_spec.specs.Text.{refused_line}
use Rattle.cdf_listing_lines.specs.Put.{Room}
use Rattle.cdf_listing_lines.proofs.Putting.{put_both, room_first, room_then}
use Rattle.cdf_listing_lines.proofs.Rooms.{refused_room}
use Rattle.cdf_listing_lines.proofs.put_refused.Goals as goal

pub put_decimal-after_number-requires : goal.put_decimal-after_number-requires
unfolding refused_line
put_decimal-after_number-requires c =
    let room : Room 0 (refused_line c.args.number c.args.offset) = refused_room _ _ (omega arith) (omega arith) in
    room_then c.put_bytes-after_refused.ensures (room_first _ (room_first _ (room_first _ room)))

pub put_bytes-after_at-requires : goal.put_bytes-after_at-requires
unfolding refused_line
put_bytes-after_at-requires c =
    let room : Room 0 (refused_line c.args.number c.args.offset) = refused_room _ _ (omega arith) (omega arith) in
    room_then (put_both c.put_bytes-after_refused.ensures c.put_decimal-after_number.ensures) (room_first _ (room_first _ room))

pub put_decimal-after_offset-requires : goal.put_decimal-after_offset-requires
unfolding refused_line
put_decimal-after_offset-requires c =
    let room : Room 0 (refused_line c.args.number c.args.offset) = refused_room _ _ (omega arith) (omega arith) in
    room_then (put_both (put_both c.put_bytes-after_refused.ensures c.put_decimal-after_number.ensures) c.put_bytes-after_at.ensures)
    (room_first _ room)

pub put_byte-requires : goal.put_byte-requires
unfolding refused_line
put_byte-requires c =
    let room : Room 0 (refused_line c.args.number c.args.offset) = refused_room _ _ (omega arith) (omega arith) in
    room_then
    (put_both (put_both (put_both c.put_bytes-after_refused.ensures c.put_decimal-after_number.ensures) c.put_bytes-after_at.ensures)
    c.put_decimal-after_offset.ensures)
    room

pub returns : goal.returns
unfolding refused_line
returns c =
    put_both
    (put_both (put_both (put_both c.put_bytes-after_refused.ensures c.put_decimal-after_number.ensures) c.put_bytes-after_at.ensures)
    c.put_decimal-after_offset.ensures)
    c.put_byte.ensures
