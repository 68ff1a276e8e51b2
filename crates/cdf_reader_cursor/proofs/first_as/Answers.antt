-- By the judgement of the root.
use Rattle.std.proofs.Common.{sym, ap, ◌∙◌}
use Rattle.cdf_reader_spec.proofs.Replying.{first_is}
use Rattle.cdf_reader_cursor.proofs.Starting.{start_of}
use Rattle.cdf_reader_cursor.proofs.first_as.Goals as goal

pub returns : goal.returns
returns c = c.begun.ensures ∙ ap start_of c.judge_root.ensures ∙ sym (first_is _ _)
