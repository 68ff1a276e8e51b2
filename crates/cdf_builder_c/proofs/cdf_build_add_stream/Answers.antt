-- The builder's ADD_STREAM at the place that the numbers are.
use Rattle.cdf_builder_numbers.proofs.Told.{called}
use Rattle.cdf_builder_c.proofs.cdf_build_add_stream.Goals as goal

pub returns : goal.returns
returns c =
    let left = c.store_answer.ensures in
    let all = called _ c.args.place.now _ _ c.builder_from.ensures c.add_stream.result _ c.add_stream.ensures _ left.number _ left.place in
    record { is = all.0; stays = all.1 }
