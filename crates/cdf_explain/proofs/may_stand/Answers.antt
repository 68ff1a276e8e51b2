-- As a root where none is open.
use Rattle.std.specs.Prelude.{is_some}
use Rattle.std.proofs.Common.{ap, ◌∙◌, eq-eqb, ne_eqb}
use Rattle.cdf_unit_table.proofs.Options.{told_is}
use Rattle.cdf_explain.proofs.may_stand.Goals as goal

pub returns-then-count-eq0 : goal.returns-then-count-eq0
returns-then-count-eq0 c = rw (eq-eqb _ 0 c.if-count-eq0.true) c.is_root_kind.ensures

pub returns : goal.returns
returns c = rw (ne_eqb _ 0 c.if-count-eq0.false) (c.is_some.ensures ∙ ap is_some c.state_after.ensures ∙ told_is _)
