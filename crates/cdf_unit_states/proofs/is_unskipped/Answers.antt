-- Below 32 by computation; from there on both sides are false.
use Rattle.std.proofs.Common.{not, ◌&&◌, arith, le-ltb, eqb, leb, ltb}
use mathlib.Core.Bool.{and-false}
use Rattle.cdf_unit_table.specs.States.{states_end, skipped}
use Rattle.cdf_unit_table.proofs.Tests.{by_bit}
use Rattle.cdf_unit_states.proofs.is_unskipped.Goals as goal

pub returns : goal.returns
unfolding skipped
returns c =
    by_bit _ (λ k. (leb 1 k && ltb k states_end) && not (eqb k (skipped k))) tt (λ k h. rw (le-ltb k states_end (omega arith), and-false))
    c.args.state
