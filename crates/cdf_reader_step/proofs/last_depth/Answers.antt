-- By the innermost unit's start.
use Rattle.std.proofs.Common.{suc, ◌≡◌, sym, ◌∙◌, arith, eq-eqb, ne_eqb}
use Rattle.cdf_reader_cursor.proofs.Again.{depth_is}
use Rattle.cdf_reader_step.proofs.last_depth.Goals as goal

pub returns-then-c-clause-is : goal.returns-then-c-clause-is
returns-then-c-clause-is c = rw (eq-eqb _ _ c.if-c.true)

pub returns-then-c-clause-placed : goal.returns-then-c-clause-placed
returns-then-c-clause-placed c = λ within.
    sym (depth_is c.args.c within.0 ∙ rw (eq-eqb _ _ c.if-c.true))

pub returns-clause-is : goal.returns-clause-is
returns-clause-is c = rw (ne_eqb _ _ c.if-c.false) c.saturating_add.ensures

pub returns-clause-placed : goal.returns-clause-placed
returns-clause-placed c = λ within.
    let e : c.saturating_add.result ≡ suc c.args.c.units.count = omega (arith, within, c.saturating_add.ensures) in
    e ∙ sym (depth_is c.args.c within.0 ∙ rw (ne_eqb _ _ c.if-c.false))
