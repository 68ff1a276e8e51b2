-- A turn of a loop whose reader hears the codes in its own way: what it has as the call of one.
use Rattle.std.proofs.Common.{ℕ, ◌+◌, ◌*◌, ◌-◌, ◌≤◌, ◌<◌, ◌≡◌, refl, sym, ap, ◌∙◌, Bool, true, false, cond, true≢false, List, map, arith, length}
use Rattle.std.proofs.Common.{get_or}
use Rattle.std.proofs.lemmas.List.{length-map, get_or-map}
use borrow.Rule.Slice.PartMut.{put_mid}
use Rattle.std.specs.Prelude.{Option, Some, None, Result}
use Rattle.cdf_refusal.specs.declared.Fault.{Fault}
use Rattle.cdf_unit_prefix.specs.Layout.{layout_for}
use Rattle.cdf_reader_spec.specs.Calls.{Part, call_of}
use Rattle.cdf_reader_spec.specs.declared.Call.{Call}
use Rattle.cdf_reader_cursor.specs.Outcomes.{cursor_place, reply_from}
use Rattle.cdf_reader_cursor.specs.declared.Cursor.{Cursor}
use Rattle.cdf_reader_cursor.specs.declared.Outcome.{Outcome}
use Rattle.cdf_reader_step.specs.Kept.{cursor_kept}
use Rattle.cdf_reader_numbers.specs.Taking.{part_by}
use Rattle.cdf_reader_replay_spec.specs.Replay.{known_code, call_by, ran_of, entry_of, log_after}
use Rattle.cdf_reader_replay_spec.specs.Holding.{Held, cursor_after, number_told, told_of}
use Rattle.cdf_reader_replay_spec.proofs.Replaying.{Running, on, finished, ended_unknown, ended_all}

-- The call of a code, if it is the code of one.
abbrev heard_as : ℕ → Option Call
heard_as code = cond (known_code code) (Some (call_by code)) None

abbrev has : Option Call → Bool
has (Some a) = true
has None = false

none : (b : Bool) (a : Call) → cond b (Some a) None ≡ None → b ≡ false
none true a e = absurd (true≢false (ap has e))
none false a e = refl

one : (b : Bool) (a call : Call) → cond b (Some a) None ≡ Some call → (b ≡ true) × (call ≡ a)
one true a call e = (refl, search (e))
one false a call e = absurd (true≢false (sym (ap has e)))

module _ (heard : ℕ → ℕ) (s calls log₀ : List ℕ) {log : List ℕ} {c : Cursor} {k : ℕ} (r : Running s (map heard calls) log₀ log c k) where
  abbrev codes : List ℕ
  codes = map heard calls

  -- The codes end,
  pub ends : length calls ≤ k → (length calls ≡ length (ran_of s codes)) × (log ≡ log_after (ran_of s codes) log₀)
  ends h =
      let all = finished s codes log₀ r (ended_all s codes log₀ r (omega (arith, h, length-map calls heard))) in
      (omega (arith, all.0, h, r.within, length-map calls heard), all.1)

  module _ (less : k < length calls) where
    at : get_or codes k 0 ≡ heard (get_or calls k 0)
    at = get_or-map heard calls k 0 0 less

    inside : k < length codes
    inside = omega (arith, less, length-map calls heard)

    -- one is that of no call,
    pub stops : heard_as (heard (get_or calls k 0)) ≡ None → (k ≡ length (ran_of s codes)) × (log ≡ log_after (ran_of s codes) log₀)
    stops e = finished s codes log₀ r (ended_unknown s codes log₀ r inside (ap known_code at ∙ none _ _ e))

    -- or the loop goes on.
    pub goes : (call : Call) → heard_as (heard (get_or calls k 0)) ≡ Some call → (q : Result Outcome Fault) (part : Part) →
        reply_from (cursor_kept call c) q ≡ call_of (layout_for s) s (cursor_place c) call → Held s (cursor_after call c q) →
        part ≡ part_by call (number_told q) c.last.start c.last.end → (entry : List ℕ) → entry ≡ entry_of (told_of q part) →
        Running s codes log₀ (put_mid (11 * k) (11 * k + 11 - 11 * k) log entry) (cursor_after call c q) (k + 1)
    goes call e q part w held by entry is =
        let known = one _ _ call e in
        let same : call ≡ call_by (get_or codes k 0) = known.1 ∙ ap call_by (sym at) in
        rw same (on s codes log₀ r inside (ap known_code at ∙ known.0) q part (rw same at w) (rw same at held) (rw same at by) entry is)
