-- A call is named by what it puts: `columns`, `size`, `feed`.
use Rattle.std.proofs.Common.{[], ◌∷◌, ◌++◌, arith}
use Rattle.cdf_listing_spec.specs.Decimal.{decimal}
use Rattle.cdf_listing_spec.specs.Text.{columns}
use Rattle.cdf_listing_lines.specs.Put.{Room}
use Rattle.cdf_listing_lines.proofs.Putting.{put_both, room_first, room_then}
use Rattle.cdf_listing_lines.proofs.Rooms.{line_room}
use Rattle.cdf_listing_lines.proofs.put_line.Goals as goal

pub put_columns-after_columns-requires : goal.put_columns-after_columns-requires
put_columns-after_columns-requires c =
    let a = c.args in
    let room : Room a.at (columns a.depth a.unit ++ decimal a.size ++ 10 ∷ []) =
    line_room _ _ _ _ (omega arith) (omega arith) (omega arith) (omega arith, omega arith, omega arith) in
    room_first _ (room_first _ room)

pub put_decimal-after_size-requires : goal.put_decimal-after_size-requires
put_decimal-after_size-requires c =
    let a = c.args in
    let room : Room a.at (columns a.depth a.unit ++ decimal a.size ++ 10 ∷ []) =
    line_room _ _ _ _ (omega arith) (omega arith) (omega arith) (omega arith, omega arith, omega arith) in
    room_then c.put_columns-after_columns.ensures (room_first _ room)

pub put_byte-requires : goal.put_byte-requires
put_byte-requires c =
    let a = c.args in
    let room : Room a.at (columns a.depth a.unit ++ decimal a.size ++ 10 ∷ []) =
    line_room _ _ _ _ (omega arith) (omega arith) (omega arith) (omega arith, omega arith, omega arith) in
    room_then (put_both c.put_columns-after_columns.ensures c.put_decimal-after_size.ensures) room

pub returns : goal.returns
returns c =
    put_both (put_both c.put_columns-after_columns.ensures c.put_decimal-after_size.ensures) c.put_byte.ensures
