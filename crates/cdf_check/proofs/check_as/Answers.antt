-- `check_as` meets its contract: the unit at the front is judged as a root, and the answers are the unit list's
-- (proofs/Exact).
use Rattle.std.proofs.Common.{sym, true}
use Rattle.cdf_check.proofs.Exact.{bytes_of, root_is, exact, accepted_iff}
use Rattle.cdf_check.proofs.check_as.Goals as goal

pub check_front-requires : goal.check_front-requires
check_front-requires c = (true, 0, sym c.judge_root.ensures)

pub returns : goal.returns
returns c =
    let s = c.args.s.now in
    let w = root_is _ s _ _ c.check_front.ensures c.judge_root.ensures in
    record { answer = w.0; is = w.1; exact = λ n. accepted_iff _ n (exact c.args.edition s (bytes_of s (λ i. (c.type_inv.s i).fits)) n _ w) }
