-- A call is named by what it puts: `start`, `depth`, `id`, `action`.
use Rattle.cdf_listing_spec.specs.Text.{columns}
use Rattle.cdf_listing_lines.proofs.Putting.{put_both, room_first, room_then}
use Rattle.cdf_listing_lines.proofs.put_columns.Goals as goal

pub put_number-after_start-requires : goal.put_number-after_start-requires
unfolding columns
put_number-after_start-requires c = room_first _ (room_first _ (room_first _ c.requires))

pub put_number-after_depth-requires : goal.put_number-after_depth-requires
unfolding columns
put_number-after_depth-requires c =
    room_then c.put_number-after_start.ensures (room_first _ (room_first _ c.requires))

pub put_number-after_id-requires : goal.put_number-after_id-requires
unfolding columns
put_number-after_id-requires c =
    room_then (put_both c.put_number-after_start.ensures c.put_number-after_depth.ensures) (room_first _ c.requires)

pub put_number-requires : goal.put_number-requires
unfolding columns
put_number-requires c =
    room_then (put_both (put_both c.put_number-after_start.ensures c.put_number-after_depth.ensures) c.put_number-after_id.ensures)
    c.requires

pub returns : goal.returns
unfolding columns
returns c =
    put_both (put_both (put_both c.put_number-after_start.ensures c.put_number-after_depth.ensures) c.put_number-after_id.ensures)
    c.put_number.ensures
