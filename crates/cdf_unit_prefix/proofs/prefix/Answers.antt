-- By the edition.
use Rattle.std.proofs.Common.{arith}
use Rattle.cdf_unit_prefix.proofs.prefix.Goals as goal

pub returns-in-First : goal.returns-in-First
returns-in-First c = record { is = rw c.in-First.is; near = (omega arith, omega arith) }

pub returns-in-Second : goal.returns-in-Second
returns-in-Second c = record { is = rw c.in-Second.is; near = (omega arith, omega arith) }
