-- By any table: its own calls, and else the first reader's.
use Rattle.std.proofs.Common.{◌∙◌, ⊎_elim, eq-eqb, ne_eqb}
use Rattle.cdf_table_reader_spec.proofs.Other.{start_other, next_other}
use Rattle.cdf_table_reader_replay.proofs.turn_by.Goals as goal

pub returns-in-Start : goal.returns-in-Start
returns-in-Start c =
    let start = c.in-Start.is in
    record { is = rw start c.first_by.ensures; again = λ e. start_other (rw start at e) }

pub returns-then-c-eq0 : goal.returns-then-c-eq0
returns-then-c-eq0 c =
    let a = c.args in
    let next = c.in-Next.is in
    record { is = rw (next, c.at.ensures, eq-eqb a.c.units.count 0 c.if-c-eq0.true); again = λ e. next_other (rw next at e) }

pub returns-else-c-eq0 : goal.returns-else-c-eq0
returns-else-c-eq0 c =
    let a = c.args in
    let next = c.in-Next.is in
    record { is = rw (next, ne_eqb a.c.units.count 0 c.if-c-eq0.false) c.advance_by.ensures; again = λ e. next_other (rw next at e) }

pub returns-in-Skip : goal.returns-in-Skip
returns-in-Skip c =
    let told = c.call_at.ensures in
    record { is = told.is ∙ ⊎_elim (λ e. rw e) (⊎_elim (λ e. rw e) (λ e. rw e)) c.in-Skip.is; again = told.again }
