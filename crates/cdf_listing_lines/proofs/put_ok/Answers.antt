-- A call is named by what it puts: `ok`, `units`, `feed`.
use Rattle.std.proofs.Common.{arith}
use Rattle.cdf_listing_spec.specs.Text.{ok_line}
use Rattle.cdf_listing_lines.specs.Put.{Room}
use Rattle.cdf_listing_lines.proofs.Putting.{put_both, room_first, room_then}
use Rattle.cdf_listing_lines.proofs.Rooms.{ok_room}
use Rattle.cdf_listing_lines.proofs.put_ok.Goals as goal

pub put_bytes-after_ok-requires : goal.put_bytes-after_ok-requires
unfolding ok_line
put_bytes-after_ok-requires c = record { held = omega arith }

pub put_decimal-after_units-requires : goal.put_decimal-after_units-requires
unfolding ok_line
put_decimal-after_units-requires c =
    let room : Room c.args.at (ok_line c.args.units) = ok_room _ _ (omega arith) (omega arith) in
    room_then c.put_bytes-after_ok.ensures (room_first _ room)

pub put_byte-requires : goal.put_byte-requires
unfolding ok_line
put_byte-requires c =
    let room : Room c.args.at (ok_line c.args.units) = ok_room _ _ (omega arith) (omega arith) in
    room_then (put_both c.put_bytes-after_ok.ensures c.put_decimal-after_units.ensures) room

pub returns : goal.returns
unfolding ok_line
returns c = put_both (put_both c.put_bytes-after_ok.ensures c.put_decimal-after_units.ensures) c.put_byte.ensures
