-- The term of the claims.
use Rattle.cdf_builder_groups.specs.Claims.{Claims}
use Rattle.cdf_builder_groups.proofs.Singly.{singly}
use Rattle.cdf_builder_groups.proofs.Close.{closed_after}
use Rattle.cdf_builder_groups.proofs.Moved.{moved_in}

pub proved : Claims
proved = record { singly = singly; closes = closed_after; moved = moved_in }
