-- Those around the innermost one, and then that one (proofs/Lengths).
use Rattle.std.proofs.Common.{◌∙◌}
use Rattle.cdf_builder_append.proofs.Lengths.{empty, all}
use Rattle.cdf_builder_append.proofs.rewrite.Goals as goal

pub returns-then-p-eq0 : goal.returns-then-p-eq0
returns-then-p-eq0 c = empty _ _ _ c.if-p-eq0.true

pub returns : goal.returns
returns c =
    c.write_open.ensures ∙ all _ _ _ c.if-p-eq0.false c.rewrite_around.ensures
