-- 11, and else what the call does: at any place as the code has it, and at one that the loop holds it is the call that is due
-- (cdf_reader_step/proofs/Asking): `may` past the test says that the call has a use, and `fit` that the place may go on.
use Rattle.std.proofs.Common.{ℕ, ◌≡◌, ⊎_elim, sym, ap, ◌∙◌, true, false, true≢false, List, length}
use Rattle.std.specs.Prelude.{Result, Ok, Err}
use Rattle.cdf_refusal.specs.declared.Fault.{Fault}
use Rattle.cdf_refusal.specs.declared.Refusal.TheVariants.{NoUse}
use Rattle.cdf_unit_prefix.specs.Layout.{Layout, edition_of, layout_for}
use Rattle.cdf_unit_prefix.specs.declared.Edition.{Edition}
use Rattle.cdf_unit_data.specs.Data.{NameBytes}
use Rattle.cdf_reader_spec.specs.Calls.{call_of, is_start}
use Rattle.cdf_reader_spec.specs.declared.Call.{Call}
use Rattle.cdf_reader_spec.specs.declared.Call.TheVariants.{Start, Next, Skip, GetStream, Previous}
use Rattle.cdf_reader_cursor.specs.Outcomes.{cursor_place, reply_from}
use Rattle.cdf_reader_cursor.specs.declared.Cursor.{Cursor}
use Rattle.cdf_reader_cursor.specs.declared.Outcome.{Outcome}
use Rattle.cdf_reader_step.specs.Kept.{cursor_kept}
use Rattle.cdf_reader_step.proofs.Asking.{Use, useless, fit_needed, counts, starts, steps, skips, takes, again}
use Rattle.cdf_reader_replay_spec.specs.Holding.{Held, cursor_after}
use Rattle.cdf_reader_replay_spec.proofs.Holding.{may_go, goes_on}
use Rattle.cdf_reader_replay.specs.Turned.{does_by, turned_by}
use Rattle.cdf_reader_replay.proofs.ByRowTurns.turn.Goals as goal

module _ (w : NameBytes) (l : Layout) (s : List ℕ) (c : Cursor) where
  -- Only a call that is no start has no use, and it keeps the cursor.
  none : (call : Call) → Use c call ≡ false → (f : Fault) → f ≡ record { refusal = NoUse; offset = 0 } →
      reply_from (cursor_kept call c) (Err f) ≡ turned_by w l s c call
  none Start u f is = absurd (true≢false u)
  none Next u f is = rw (is, u)
  none Skip u f is = rw (is, u)
  none GetStream u f is = rw (is, u)
  none Previous u f is = rw (is, u)

  done : (call : Call) → Use c call ≡ true → (r : Result Outcome Fault) → reply_from (cursor_kept call c) r ≡ does_by w l s c call →
      reply_from (cursor_kept call c) r ≡ turned_by w l s c call
  done call may r is = rw may is

-- What is promised where the loop holds the place.
abbrev Goes : List ℕ → Cursor → Edition → Call → Result Outcome Fault → Type 0
Goes s c edition call r =
    Held s c → edition ≡ edition_of s →
    (reply_from (cursor_kept call c) r ≡ call_of (layout_for s) s (cursor_place c) call) × Held s (cursor_after call c r)

pub returns-then-not-has_use : goal.returns-then-not-has_use
returns-then-not-has_use c =
    let a = c.args in
    let no = sym c.has_use.ensures ∙ c.if-not-has_use.true in
    let all : Goes a.s.now a.c a.edition a.call (Err c.at.result) = λ h e.
    goes_on a.s.now a.c h a.call (Err c.at.result) (useless a.c (layout_for a.s.now) a.s.now a.call no c.at.result c.at.ensures) in
    record { is = none _ _ a.s.now a.c a.call no c.at.result c.at.ensures; due = λ h e. (all h e).0; held = λ h e. (all h e).1 }

pub returns-in-Start : goal.returns-in-Start
returns-in-Start c =
    let a = c.args in
    let may = sym c.has_use.ensures ∙ c.if-not-has_use.false in
    let all : Goes a.s.now a.c a.edition a.call c.first_as.result = λ h e.
    goes_on a.s.now a.c h a.call _
    (starts a.c (layout_for a.s.now) a.s.now a.call may (may_go a.s.now a.c h a.call may) c.in-Start.is c.first_as.result
    (rw e at c.first_as.ensures)) in
    record {
      is = done _ _ a.s.now a.c a.call may c.first_as.result (rw c.in-Start.is c.first_as.ensures);
      due = λ h e. (all h e).0;
      held = λ h e. (all h e).1;
    }

pub returns-in-Next : goal.returns-in-Next
returns-in-Next c =
    let a = c.args in
    let may = sym c.has_use.ensures ∙ c.if-not-has_use.false in
    let all : Goes a.s.now a.c a.edition a.call c.advance.result = λ h e.
    goes_on a.s.now a.c h a.call _
    (steps a.c (layout_for a.s.now) a.s.now a.call may (may_go a.s.now a.c h a.call may) c.in-Next.is c.advance.result
    (rw (c.args.self.now.published, e) at c.advance.ensures)) in
    record {
      is = done _ _ a.s.now a.c a.call may c.advance.result (rw c.in-Next.is c.advance.ensures);
      due = λ h e. (all h e).0;
      held = λ h e. (all h e).1;
    }

pub returns-in-Skip : goal.returns-in-Skip
returns-in-Skip c =
    let a = c.args in
    let may = sym c.has_use.ensures ∙ c.if-not-has_use.false in
    let all : Goes a.s.now a.c a.edition a.call (Ok c.pass.result) = λ h e.
    let fit = may_go a.s.now a.c h a.call may in
    goes_on a.s.now a.c h a.call (Ok c.pass.result)
    (⊎_elim
    (λ e. skips a.c (layout_for a.s.now) a.s.now a.call may fit e c.pass.result c.pass.ensures)
    (λ e. takes a.c (layout_for a.s.now) a.s.now a.call may fit e c.pass.result c.pass.ensures)
    c.in-Skip.is) in
    record {
      is = done _ _ a.s.now a.c a.call may (Ok c.pass.result) (⊎_elim (λ e. rw e c.pass.ensures) (λ e. rw e c.pass.ensures) c.in-Skip.is);
      due = λ h e. (all h e).0;
      held = λ h e. (all h e).1;
    }

pub returns-in-Previous : goal.returns-in-Previous
returns-in-Previous c =
    let a = c.args in
    let may = sym c.has_use.ensures ∙ c.if-not-has_use.false in
    let told = Ok (record { handed = record { unit = a.c.last; depth = c.last_depth.result; rank = a.c.ranks.last }; cursor = a.c }) in
    let all : Goes a.s.now a.c a.edition a.call told = λ h e.
    let fit = may_go a.s.now a.c h a.call may in
    let within = counts a.c (layout_for a.s.now) (length a.s.now)
    (fit_needed a.c (layout_for a.s.now) a.s.now a.call fit (ap is_start c.in-Previous.is)) in
    goes_on a.s.now a.c h a.call told
    (again a.c (layout_for a.s.now) a.s.now a.call may fit c.in-Previous.is _ (c.last_depth.ensures.placed within)) in
    record {
      is = done _ _ a.s.now a.c a.call may told (rw (c.in-Previous.is, c.last_depth.ensures.is));
      due = λ h e. (all h e).0;
      held = λ h e. (all h e).1;
    }
