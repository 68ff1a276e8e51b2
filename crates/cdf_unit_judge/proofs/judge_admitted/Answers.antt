-- By the body.
use Rattle.std.proofs.Common.{ap, ◌∙◌, arith}
use Rattle.cdf_unit_prefix.specs.Layout.{layout_of}
use Rattle.cdf_unit_judge.specs.Judge.{found_by}
use Rattle.cdf_unit_judge.proofs.Placed.{short}
use Rattle.cdf_unit_judge.proofs.judge_admitted.Goals as goal

pub found-requires : goal.found-requires
found-requires g c = short _ _ _ _ _ c.judge_body-body.ensures (omega arith)

pub returns : goal.returns
returns g c =
    let h = c.args.header in
    c.found.ensures ∙ ap (found_by (layout_of c.args.edition) h.id h.action h.length c.args.next) c.judge_body-body.ensures
