-- Each return by its law.
use Rattle.std.proofs.Common.{sym, ◌∙◌}
use Rattle.std.proofs.lemmas.Bool.{not-true, not-false}
use Rattle.cdf_unit_prefix.specs.Layout.{layout_of}
use Rattle.cdf_builder_fit.proofs.Parted.{written_not, limit_not, past_not, by_linked}
use Rattle.cdf_builder_fit.proofs.is_fit.Goals as goal

pub returns-then-n-p : goal.returns-then-n-p
returns-then-n-p c =
    let a = c.args in
    let p = a.p in
    written_not p.written p.units.top p.units.o1 p.units.o2 p.units.o3 (layout_of a.edition) a.n p.units.count c.if-n-p.true

pub returns-then-limit-p : goal.returns-then-limit-p
returns-then-limit-p c =
    let a = c.args in
    let p = a.p in
    limit_not p.written p.units.top p.units.o1 p.units.o2 p.units.o3 (layout_of a.edition) a.n p.units.count
    (rw c.limit.ensures at c.if-limit-p.true)

pub returns-then-not-is_past : goal.returns-then-not-is_past
returns-then-not-is_past c =
    let a = c.args in
    let p = a.p in
    let past = c.is_past in
    past_not p.written p.units.top p.units.o1 p.units.o2 p.units.o3 (layout_of a.edition) a.n p.units.count
    (sym past.ensures ∙ not-true past.result c.if-not-is_past.true-raw)

pub returns : goal.returns
returns c =
    let a = c.args in
    let p = a.p in
    c.are_linked.ensures
    ∙ by_linked p.written p.units.top p.units.o1 p.units.o2 p.units.o3 (layout_of a.edition) a.n p.units.count
    c.if-n-p.false
    (rw c.limit.ensures at c.if-limit-p.false)
    (sym c.is_past.ensures ∙ not-false c.is_past.result c.if-not-is_past.false-raw)
