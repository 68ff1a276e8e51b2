-- The builder's start, at the place whose numbers are zeros.
use Rattle.std.proofs.Common.{refl}
use Rattle.cdf_builder.specs.View.{no_builder}
use Rattle.cdf_builder_numbers.specs.Numbers.{numbers_of}
use Rattle.cdf_builder_numbers.proofs.Told.{answered}
use Rattle.cdf_builder_c.proofs.cdf_build_first.Goals as goal

pub returns : goal.returns
returns c =
    let left = c.store_answer.ensures in
    let all = answered (numbers_of no_builder) _ no_builder refl c.start.result c.start.ensures _ left.number _ left.place in
    record { is = all.0; clears = all.1 }
