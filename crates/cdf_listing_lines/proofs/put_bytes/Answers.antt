use Rattle.cdf_listing_lines.proofs.Putting.{put_more}
use Rattle.cdf_listing_lines.proofs.put_bytes.Goals as goal

pub loop-byte-preserved : goal.loop-byte-preserved
loop-byte-preserved c =
    let at = c.loop-byte in
    put_more c.args.bytes.now at.byte-index c.loop-byte-test.true at.invariant c.put_byte-next.ensures
