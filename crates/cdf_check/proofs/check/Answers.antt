-- What the check of that edition promises.
use Rattle.cdf_check.proofs.check.Goals as goal

pub returns : goal.returns
returns c = rw (← c.edition_of-edition.ensures) (record { answer = c.check_as.ensures.answer; is = c.check_as.ensures.is; exact = c.check_as.ensures.exact })
