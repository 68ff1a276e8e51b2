-- By the unit that the start hands out (proofs/Rooted).
use Rattle.std.specs.Prelude.{Err}
use Rattle.cdf_reader.specs.View.{reply_of, reply_from, no_place}
use Rattle.cdf_lookup_search.proofs.Rooted.{group_is}
use Rattle.cdf_lookup_search.proofs.is_group.Goals as goal

pub returns-in-Ok-clause-listed : goal.returns-in-Ok-clause-listed
returns-in-Ok-clause-listed c = λ l s e. group_is l s (reply_of c.in-Ok.a) (rw c.in-Ok.is at e)

pub returns-in-Err-clause-listed : goal.returns-in-Err-clause-listed
returns-in-Err-clause-listed c = λ l s e. group_is l s (reply_from no_place (Err c.in-Err.field-0)) (rw c.in-Err.is at e)
