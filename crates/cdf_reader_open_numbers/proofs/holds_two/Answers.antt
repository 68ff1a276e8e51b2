-- The kinds, then where the units lie, then their ranks (proofs/Holding).
use Rattle.std.proofs.Common.{sym, ◌∙◌}
use Rattle.cdf_unit_prefix.specs.Layout.{layout_of}
use Rattle.cdf_reader_numbers.specs.Numbers.{place_from}
use Rattle.cdf_reader_open_numbers.proofs.Holding.{two}
use Rattle.cdf_reader_open_numbers.proofs.holds_two.Goals as goal

pub returns-then-not-is_pair : goal.returns-then-not-is_pair
returns-then-not-is_pair c =
    let kinds = c.is_pair in
    let a = c.args in
    (two (layout_of a.edition) a.n a.most (place_from a.p.now)).0 (sym kinds.ensures ∙ c.if-not-is_pair.true)

pub returns : goal.returns
returns c =
    let kinds = c.is_pair in
    let a = c.args in
    rw c.is_past.ensures
    ((two (layout_of a.edition) a.n a.most (place_from a.p.now)).1 (sym kinds.ensures ∙ c.if-not-is_pair.false))
