use Rattle.std.proofs.Common.{sym, ◌∙◌, arith, rules}
use lib.Seq.{set_out}
use Rattle.cdf_listing_lines.proofs.Putting.{put_length}
use Rattle.cdf_listing_lines.proofs.put_byte.Goals as goal
use Rattle.cdf_listing_lines.proofs.put_byte.Goals.{then-at-out, else-at-out}

pub returns : goal.returns
returns c = record {
  is = elim c.if-at-out.branch [ then-at-out w ↦ w.out-is | else-at-out w ↦ w.out-is ∙ sym (set_out _ _ _ (omega arith)) ];
  next = search rules;
}

pub shape_of-out : goal.shape_of-out
shape_of-out c = put_length (returns c)
