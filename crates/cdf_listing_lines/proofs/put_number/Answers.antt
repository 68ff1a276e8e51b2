use Rattle.cdf_listing_spec.specs.Text.{number}
use Rattle.cdf_listing_lines.proofs.Putting.{put_both, room_first, room_then}
use Rattle.cdf_listing_lines.proofs.put_number.Goals as goal

pub put_decimal-next-requires : goal.put_decimal-next-requires
unfolding number
put_decimal-next-requires c = room_first _ c.requires

pub put_byte-requires : goal.put_byte-requires
unfolding number
put_byte-requires c =
    room_then c.put_decimal-next.ensures c.requires

pub returns : goal.returns
unfolding number
returns c =
    put_both c.put_decimal-next.ensures c.put_byte.ensures
