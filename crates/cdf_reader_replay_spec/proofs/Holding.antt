-- A call at a place that the loop holds may go on with it, and returns one that the loop may hold.
use Rattle.std.proofs.Common.{ℕ, ◌≡◌, refl, true, List}
use Rattle.std.proofs.lemmas.Bool.{eqb-false, not-true}
use Rattle.std.specs.Prelude.{Result, Ok, Err}
use Rattle.cdf_refusal.specs.declared.Fault.{Fault}
use Rattle.cdf_unit_table.proofs.Bools.{both}
use Rattle.cdf_unit_prefix.specs.Layout.{Layout, layout_for}
use Rattle.cdf_reader_spec.specs.Place.{ReaderPlace}
use Rattle.cdf_reader_spec.specs.Calls.{Reply, call_of}
use Rattle.cdf_reader_spec.specs.declared.Call.{Call}
use Rattle.cdf_reader_spec.specs.declared.Call.TheVariants.{Start, Next, Skip, GetStream, Previous}
use Rattle.cdf_reader_spec.proofs.Replying.{start_named, next_named, skip_named, take_named, previous_named}
use Rattle.cdf_reader_cursor.specs.Outcomes.{cursor_place, outcome_reply, reply_from}
use Rattle.cdf_reader_cursor.specs.declared.Cursor.{Cursor}
use Rattle.cdf_reader_cursor.specs.declared.Outcome.{Outcome}
use Rattle.cdf_reader_step.specs.Kept.{cursor_kept, Again}
use Rattle.cdf_reader_step.proofs.Asking.{Use, ready}
use Rattle.cdf_reader_runs.proofs.Proved.{proved as runs}
use Rattle.cdf_reader_plain.specs.Claims.{Fits}
use Rattle.cdf_reader_plain.proofs.Proved.{proved as plain}
use Rattle.cdf_reader_replay_spec.specs.Holding.{Held, cursor_after}

-- A place that any call returns with 0 fits.
returned : (l : Layout) (s : List ℕ) (v : ReaderPlace) (c : Call) → Fits l s (call_of l s v c)
returned l s v Start = rw (start_named l s v) (runs.first_fits l s)
returned l s v Next = rw (next_named l s v) (runs.next_fits l s v)
returned l s v Skip = rw (skip_named l s v) (plain.skip_fits l s v)
returned l s v GetStream = rw (take_named l s v) (plain.take_fits l s v)
returned l s v Previous = rw (previous_named l s v) (plain.previous_fits l s v)

same_fits : (l : Layout) (s : List ℕ) (a b : Reply) → a ≡ b → Fits l s b → Fits l s a
same_fits l s a b e f = rw e f

module _ (s : List ℕ) (p : Cursor) (held : Held s p) where
  -- A call that has a use, but a start, has an open unit.
  pub may_go : (c : Call) → Use p c ≡ true → ready p (layout_for s) s c ≡ true
  may_go Start u = refl
  may_go Next u = held (eqb-false p.units.count 0 (not-true _ u))
  may_go Skip u = held (eqb-false p.units.count 0 (not-true _ (both _ _ u).0))
  may_go GetStream u = held (eqb-false p.units.count 0 (not-true _ (both _ _ (both _ _ u).0).0))
  may_go Previous u = held (eqb-false p.units.count 0 (not-true _ u))

  kept_held : (c : Call) → Held s (cursor_kept c p)
  kept_held Start = λ some. absurd (some refl)
  kept_held Next = held
  kept_held Skip = held
  kept_held GetStream = held
  kept_held Previous = held

  -- What is promised of a call's answer, and that the loop may go on with it.
  pub goes_on : (c : Call) (r : Result Outcome Fault) →
      (reply_from (cursor_kept c p) r ≡ call_of (layout_for s) s (cursor_place p) c) × (c ≡ Previous → Again p r) →
      (reply_from (cursor_kept c p) r ≡ call_of (layout_for s) s (cursor_place p) c) × Held s (cursor_after c p r)
  goes_on c (Ok o) w =
      let due = call_of (layout_for s) s (cursor_place p) c in
      let fit = same_fits (layout_for s) s (outcome_reply o) due w.0 (returned (layout_for s) s (cursor_place p) c) in
      (w.0, λ some. fit refl)
  goes_on c (Err f) w = (w.0, kept_held c)
