-- Each return by its law, given the units that were found to hold.
use Rattle.std.proofs.Common.{sym, ◌∙◌}
use Rattle.std.proofs.lemmas.Bool.{not-true, not-false}
use Rattle.cdf_unit_prefix.specs.Layout.{layout_of}
use Rattle.cdf_reader_fit.proofs.Chains.{single, first_not, double, second_not, triple, third_not, fourfold, too_many}
use Rattle.cdf_reader_fit.proofs.is_chain.Goals as goal

pub returns-then-count-eq1 : goal.returns-then-count-eq1
returns-then-count-eq1 c =
    let a = c.args in
    let u = a.units in
    c.is_outermost.ensures ∙ single (layout_of a.edition) a.n u.count u.top u.o1 u.o2 u.o3 c.if-count-eq1.true

pub returns-then-not-is_outermost : goal.returns-then-not-is_outermost
returns-then-not-is_outermost c =
    let a = c.args in
    let u = a.units in
    first_not (layout_of a.edition) a.n u.count u.top u.o1 u.o2 u.o3 c.if-count-eq1.false
    (sym c.is_outermost-2.ensures ∙ not-true c.is_outermost-2.result c.if-not-is_outermost.true-raw)

pub returns-then-count-eq2 : goal.returns-then-count-eq2
returns-then-count-eq2 c =
    let one = sym c.is_outermost-2.ensures ∙ not-false c.is_outermost-2.result c.if-not-is_outermost.false-raw in
    let a = c.args in
    let u = a.units in
    c.is_under.ensures ∙ double (layout_of a.edition) a.n u.count u.top u.o1 u.o2 u.o3 one c.if-count-eq2.true

pub returns-then-not-is_under : goal.returns-then-not-is_under
returns-then-not-is_under c =
    let one = sym c.is_outermost-2.ensures ∙ not-false c.is_outermost-2.result c.if-not-is_outermost.false-raw in
    let a = c.args in
    let u = a.units in
    second_not (layout_of a.edition) a.n u.count u.top u.o1 u.o2 u.o3 one
    c.if-count-eq1.false c.if-count-eq2.false
    (sym c.is_under-2.ensures ∙ not-true c.is_under-2.result c.if-not-is_under.true-raw)

pub returns-then-count-eq3 : goal.returns-then-count-eq3
returns-then-count-eq3 c =
    let one = sym c.is_outermost-2.ensures ∙ not-false c.is_outermost-2.result c.if-not-is_outermost.false-raw in
    let two = sym c.is_under-2.ensures ∙ not-false c.is_under-2.result c.if-not-is_under.false-raw in
    let a = c.args in
    let u = a.units in
    c.is_under-then-count-eq3.ensures ∙ triple (layout_of a.edition) a.n u.count u.top u.o1 u.o2 u.o3 one two c.if-count-eq3.true

pub returns-then-not-is_under-2 : goal.returns-then-not-is_under-2
returns-then-not-is_under-2 c =
    let one = sym c.is_outermost-2.ensures ∙ not-false c.is_outermost-2.result c.if-not-is_outermost.false-raw in
    let two = sym c.is_under-2.ensures ∙ not-false c.is_under-2.result c.if-not-is_under.false-raw in
    let a = c.args in
    let u = a.units in
    third_not (layout_of a.edition) a.n u.count u.top u.o1 u.o2 u.o3 one two
    c.if-count-eq1.false c.if-count-eq2.false c.if-count-eq3.false
    (sym c.is_under-3.ensures ∙ not-true c.is_under-3.result c.if-not-is_under-2.true-raw)

pub returns-then-count-eq4 : goal.returns-then-count-eq4
returns-then-count-eq4 c =
    let one = sym c.is_outermost-2.ensures ∙ not-false c.is_outermost-2.result c.if-not-is_outermost.false-raw in
    let two = sym c.is_under-2.ensures ∙ not-false c.is_under-2.result c.if-not-is_under.false-raw in
    let three = sym c.is_under-3.ensures ∙ not-false c.is_under-3.result c.if-not-is_under-2.false-raw in
    let a = c.args in
    let u = a.units in
    c.is_under-then-count-eq4.ensures ∙ fourfold (layout_of a.edition) a.n u.count u.top u.o1 u.o2 u.o3 one two three c.if-count-eq4.true

pub returns : goal.returns
returns c =
    let a = c.args in
    let u = a.units in
    too_many (layout_of a.edition) a.n u.count u.top u.o1 u.o2 u.o3
    c.if-count-eq1.false c.if-count-eq2.false c.if-count-eq3.false c.if-count-eq4.false
