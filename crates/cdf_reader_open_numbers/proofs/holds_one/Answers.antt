-- The root, then its rank.
use Rattle.cdf_reader_numbers.specs.Numbers.{place_from}
use Rattle.cdf_reader_open_numbers.proofs.Holding.{one}
use Rattle.cdf_reader_open_numbers.proofs.holds_one.Goals as goal

pub returns : goal.returns
returns c =
    let a = c.args in
    λ l. rw (c.is_outermost.ensures, c.open_of.ensures) (one l a.n a.most (place_from a.p.now))
