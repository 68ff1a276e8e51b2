-- The bytes before the one in hand were put, one behind the other.
use Rattle.std.proofs.Common.{take}
use Rattle.cdf_listing_lines.specs.Put.{Put}
use Rattle.cdf_listing_lines.proofs.put_bytes.Given as goal

abbrev pub invariant-loop-byte : goal.invariant-loop-byte
invariant-loop-byte l = Put l.initial.out l.at (take l.byte-index l.bytes) l.out l.next
