-- 11, 2, and else what the call does (proofs/Asking): `may` past the first test says that the call has a use, `fit` past the second that it
-- may go on with the place.
use Rattle.std.proofs.Common.{sym, ap, ◌∙◌, ⊎_elim, length}
use Rattle.cdf_unit_prefix.specs.Layout.{layout_of}
use Rattle.cdf_unit_data.specs.Standing.{name_row}
use Rattle.cdf_reader_spec.specs.Calls.{is_start}
use Rattle.cdf_reader_step.proofs.Asking.{useless, unfit, fit_needed, counts, starts, steps, skips, takes, again}
use Rattle.cdf_reader_step.proofs.call_at.Goals as goal

pub returns-then-not-has_use : goal.returns-then-not-has_use
returns-then-not-has_use c =
    let all = useless _ _ _ _ (sym c.has_use.ensures ∙ c.if-not-has_use.true) c.at.result c.at.ensures in
    record { is = all.0; again = all.1 }

pub returns-then-not-is_ready : goal.returns-then-not-is_ready
returns-then-not-is_ready c =
    let may = sym c.has_use.ensures ∙ c.if-not-has_use.false in
    let all = unfit _ _ _ _ may (sym c.is_ready.ensures ∙ c.if-not-is_ready.true) c.at-then-not-is_ready.result c.at-then-not-is_ready.ensures in
    record { is = all.0; again = all.1 }

pub returns-in-Start : goal.returns-in-Start
returns-in-Start c =
    let may = sym c.has_use.ensures ∙ c.if-not-has_use.false in
    let fit = sym c.is_ready.ensures ∙ c.if-not-is_ready.false in
    let all = starts _ _ _ _ may fit c.in-Start.is c.first_as.result c.first_as.ensures in
    record { is = all.0; again = all.1 }

pub returns-in-Next : goal.returns-in-Next
unfolding name_row
returns-in-Next c =
    let may = sym c.has_use.ensures ∙ c.if-not-has_use.false in
    let fit = sym c.is_ready.ensures ∙ c.if-not-is_ready.false in
    let all = steps _ _ _ _ may fit c.in-Next.is c.advance.result c.advance.ensures in
    record { is = all.0; again = all.1 }

pub returns-in-Skip : goal.returns-in-Skip
returns-in-Skip c =
    let may = sym c.has_use.ensures ∙ c.if-not-has_use.false in
    let fit = sym c.is_ready.ensures ∙ c.if-not-is_ready.false in
    let all = ⊎_elim (λ e. skips _ _ _ _ may fit e c.pass.result c.pass.ensures) (λ e. takes _ _ _ _ may fit e c.pass.result c.pass.ensures) c.in-Skip.is
    in
    record { is = all.0; again = all.1 }

pub returns-in-Previous : goal.returns-in-Previous
returns-in-Previous c =
    let may = sym c.has_use.ensures ∙ c.if-not-has_use.false in
    let fit = sym c.is_ready.ensures ∙ c.if-not-is_ready.false in
    let a = c.args in
    let within = counts a.c (layout_of a.edition) (length a.s.now)
    (fit_needed a.c (layout_of a.edition) a.s.now a.call fit (ap is_start c.in-Previous.is)) in
    let all = again _ _ _ _ may fit c.in-Previous.is _ (c.last_depth.ensures.placed within) in
    rw c.hand_out.ensures (record { is = all.0; again = all.1 })
