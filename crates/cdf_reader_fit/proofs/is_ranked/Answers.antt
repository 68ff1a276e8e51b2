-- Each test against the quotient, then by the count (proofs/Lows).
use Rattle.cdf_reader_fit.proofs.Lows.{all_low}
use Rattle.cdf_reader_fit.proofs.is_ranked.Goals as goal

pub returns : goal.returns
returns c =
    let a = c.args in
    all_low a.edition a.position a.count _ a.ranks c.most_rank-most.ensures
