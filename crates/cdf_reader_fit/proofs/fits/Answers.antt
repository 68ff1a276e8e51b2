-- Each return by its law.
use Rattle.std.proofs.Common.{sym, ◌∙◌}
use Rattle.std.proofs.lemmas.Bool.{not-true, not-false}
use Rattle.cdf_unit_prefix.specs.Layout.{layout_of}
use Rattle.cdf_reader_fit.proofs.Parted.{past_not, end_not, bounds_not, last_not, ranks_not, by_chain}
use Rattle.cdf_reader_fit.proofs.fits.Goals as goal

pub returns-then-not-is_past : goal.returns-then-not-is_past
returns-then-not-is_past c =
    let a = c.args in
    let u = a.units in
    let low = c.is_past in
    past_not (layout_of a.edition) a.n a.position u.count u.top u.o1 u.o2 u.o3 a.last a.fresh a.ranks
    (sym low.ensures ∙ not-true low.result c.if-not-is_past.true-raw)

pub returns-then-top-position : goal.returns-then-top-position
returns-then-top-position c =
    let a = c.args in
    let u = a.units in
    end_not (layout_of a.edition) a.n a.position u.count u.top u.o1 u.o2 u.o3 a.last a.fresh a.ranks c.if-top-position.true

pub returns-then-not-is_bounded : goal.returns-then-not-is_bounded
returns-then-not-is_bounded c =
    let a = c.args in
    let u = a.units in
    let bound = c.is_bounded in
    bounds_not (layout_of a.edition) a.n a.position u.count u.top u.o1 u.o2 u.o3 a.last a.fresh a.ranks
    (sym bound.ensures ∙ not-true bound.result c.if-not-is_bounded.true-raw)

pub returns-then-not-is_skippable : goal.returns-then-not-is_skippable
returns-then-not-is_skippable c =
    let a = c.args in
    let u = a.units in
    let flag = c.is_skippable in
    last_not (layout_of a.edition) a.n a.position u.count u.top u.o1 u.o2 u.o3 a.last a.fresh a.ranks
    (sym flag.ensures ∙ not-true flag.result c.if-not-is_skippable.true-raw)

pub returns-then-not-is_ranked : goal.returns-then-not-is_ranked
returns-then-not-is_ranked c =
    let a = c.args in
    let u = a.units in
    let ranked = c.is_ranked in
    ranks_not (layout_of a.edition) a.n a.position u.count u.top u.o1 u.o2 u.o3 a.last a.fresh a.ranks
    (sym ranked.ensures ∙ not-true ranked.result c.if-not-is_ranked.true-raw)

pub returns : goal.returns
returns c =
    let a = c.args in
    let u = a.units in
    c.is_chain.ensures
    ∙ by_chain (layout_of a.edition) a.n a.position u.count u.top u.o1 u.o2 u.o3 a.last a.fresh a.ranks
    (sym c.is_past.ensures ∙ not-false c.is_past.result c.if-not-is_past.false-raw)
    c.if-top-position.false
    (sym c.is_bounded.ensures ∙ not-false c.is_bounded.result c.if-not-is_bounded.false-raw)
    (sym c.is_skippable.ensures ∙ not-false c.is_skippable.result c.if-not-is_skippable.false-raw)
    (sym c.is_ranked.ensures ∙ not-false c.is_ranked.result c.if-not-is_ranked.false-raw)
