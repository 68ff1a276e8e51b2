-- The builder's NEXT at the place that the numbers are.
use Rattle.cdf_builder_numbers.proofs.Told.{called}
use Rattle.cdf_builder_next_c.proofs.cdf_build_next.Goals as goal

pub returns : goal.returns
returns c =
    let left = c.store_answer.ensures in
    let all = called _ c.args.place.now _ _ c.builder_from.ensures c.next-answer.result _ c.next-answer.ensures _ left.number _ left.place in
    record { is = all.0; stays = all.1 }
