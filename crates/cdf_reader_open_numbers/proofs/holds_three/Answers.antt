-- As of two (proofs/Holding).
use Rattle.std.proofs.Common.{sym, ◌∙◌}
use Rattle.cdf_unit_prefix.specs.Layout.{layout_of}
use Rattle.cdf_reader_numbers.specs.Numbers.{place_from}
use Rattle.cdf_reader_open_numbers.proofs.Holding.{three}
use Rattle.cdf_reader_open_numbers.proofs.holds_three.Goals as goal

pub returns-then-not-is_triple : goal.returns-then-not-is_triple
returns-then-not-is_triple c =
    let kinds = c.is_triple in
    let a = c.args in
    (three (layout_of a.edition) a.n a.most (place_from a.p.now)).0 (sym kinds.ensures ∙ c.if-not-is_triple.true)

pub returns : goal.returns
returns c =
    let kinds = c.is_triple in
    let a = c.args in
    rw (c.is_past-2.ensures, c.is_past.ensures)
    ((three (layout_of a.edition) a.n a.most (place_from a.p.now)).1 (sym kinds.ensures ∙ c.if-not-is_triple.false))
