-- By the count.
use Rattle.std.proofs.Common.{rules}
use Rattle.cdf_reader_open_numbers.proofs.Holding.{other}
use Rattle.cdf_reader_fit_numbers.proofs.holds.Goals as goal

pub returns-in_default : goal.returns-in_default
returns-in_default c = search (rules, other)
