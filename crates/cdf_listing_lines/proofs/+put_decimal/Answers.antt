use Rattle.std.proofs.Common.{arith}
use Rattle.cdf_listing_spec.proofs.Digits.{decimal_digit, decimal_more}
use Rattle.cdf_listing_lines.proofs.Putting.{put_both, put_length, room_first, room_then}
use Rattle.cdf_listing_lines.proofs.+put_decimal.Goals as goal

pub put_digit-requires : goal.put_digit-requires
put_digit-requires t c = (rw (decimal_digit c.args.n c.if-n-lt10.true) at c.requires, c.if-n-lt10.true)

pub returns-then-n-lt10 : goal.returns-then-n-lt10
returns-then-n-lt10 t c = rw (decimal_digit c.args.n c.if-n-lt10.true) c.put_digit.ensures

pub shape_of-out-then-n-lt10 : goal.shape_of-out-then-n-lt10
shape_of-out-then-n-lt10 t c = put_length (returns-then-n-lt10 t c)

-- The room for the digits, of which the last one stands behind the others.
pub put_decimal-next-requires : goal.put_decimal-next-requires
put_decimal-next-requires t c = (omega arith, room_first _ (rw (decimal_more c.args.n c.if-n-lt10.false) at c.requires))

pub put_digit-requires-2 : goal.put_digit-requires-2
put_digit-requires-2 t c =
    (room_then c.put_decimal-next.ensures (rw (decimal_more c.args.n c.if-n-lt10.false) at c.requires), omega arith)

pub returns : goal.returns
returns t c = rw (decimal_more c.args.n c.if-n-lt10.false) (put_both c.put_decimal-next.ensures c.put_digit-2.ensures)

pub shape_of-out : goal.shape_of-out
shape_of-out t c = put_length (returns t c)
