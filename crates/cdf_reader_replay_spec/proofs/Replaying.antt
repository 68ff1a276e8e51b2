-- A run of calls, turn by turn: what is told of those done is in the log, and the rest is the run from the place in hand.
use Rattle.std.proofs.Common.{ℕ, suc, ◌+◌, ◌*◌, ◌-◌, ◌≤◌, ◌<◌, ◌≡◌, refl, sym, ap, ◌∙◌, true, false, List, [], ◌∷◌, ◌++◌, append_assoc, append-nil}
use Rattle.std.proofs.Common.{add-one, arith, length, take, drop, get_or, length-append, length-drop, drop_of_length-le, take_at, drop_at, drop-cons}
use Rattle.std.proofs.Common.{drop-drop}
use borrow.Rule.Slice.PartMut.{put_mid}
use lib.Seq.{append_snoc}
use Rattle.std.specs.Prelude.{Result, Ok, Err}
use Rattle.cdf_refusal.specs.declared.Fault.{Fault}
use Rattle.cdf_unit_table.proofs.Parts.{minus_plus}
use Rattle.cdf_unit_prefix.specs.Layout.{layout_for}
use Rattle.cdf_reader_spec.specs.Place.{ReaderPlace}
use Rattle.cdf_reader_spec.specs.Calls.{Reply, Part, call_of, part_taken}
use Rattle.cdf_reader_spec.specs.Slots.{open_units, open_ranks}
use Rattle.cdf_reader_spec.specs.declared.Call.{Call}
use Rattle.cdf_reader_cursor.specs.Outcomes.{cursor_place, reply_from, no_cursor}
use Rattle.cdf_reader_cursor.specs.declared.Cursor.{Cursor}
use Rattle.cdf_reader_cursor.specs.declared.Outcome.{Outcome}
use Rattle.cdf_reader_step.specs.Kept.{cursor_kept}
use Rattle.cdf_reader_plain.specs.Calls.{Told}
use Rattle.cdf_reader_plain.specs.Runs.{tells, reader_run}
use Rattle.cdf_reader_plain.proofs.Equations.{telling, reader_none, reader_on}
use Rattle.cdf_reader_numbers.specs.Taking.{part_by}
use Rattle.cdf_reader_numbers.proofs.Calling.{taken_is}
use Rattle.cdf_reader_replay_spec.specs.Replay.{known_code, call_by, calls_of, ran_of, entry_of, entries, log_after}
use Rattle.cdf_reader_replay_spec.specs.Holding.{Held, cursor_after, number_told, told_of}

-- One more entry,
entries_more : (ts : List Told) (t : Told) → entries (ts ++ (t ∷ [])) ≡ entries ts ++ entry_of t
unfolding entries
entries_more [] t = append-nil (entry_of t)
entries_more (u ∷ ts) t = ap (λ es. entry_of u ++ es) (entries_more ts t) ∙ sym (append_assoc (entry_of u) (entries ts) (entry_of t))

-- each of eleven numbers.
length_entries : (ts : List Told) → length (entries ts) ≡ 11 * length ts
unfolding entries
length_entries [] = refl
length_entries (t ∷ ts) = omega (arith, length_entries ts)

-- The calls from a code on.
pub calls_known : (code : ℕ) (codes : List ℕ) → known_code code ≡ true → calls_of (code ∷ codes) ≡ call_by code ∷ calls_of codes
unfolding calls_of
calls_known code codes e = rw e

calls_unknown : (code : ℕ) (codes : List ℕ) → known_code code ≡ false → calls_of (code ∷ codes) ≡ []
unfolding calls_of
calls_unknown code codes e = rw e

pub calls_none : calls_of [] ≡ []
unfolding calls_of
calls_none = refl

-- An outcome or a refusal by its reply.
number_is : (k : Cursor) (r : Result Outcome Fault) → number_told r ≡ (reply_from k r).number
number_is k (Ok o) = refl
number_is k (Err f) = refl

telling_is : (k : Cursor) (r : Result Outcome Fault) (part : Part) → told_of r part ≡ telling (reply_from k r) part
telling_is k (Ok o) part = refl
telling_is k (Err f) part = refl

place_is : (call : Call) (c : Cursor) (r : Result Outcome Fault) → (reply_from (cursor_kept call c) r).place ≡ cursor_place (cursor_after call c r)
place_is call c (Ok o) = refl
place_is call c (Err f) = refl

module _ (s codes log₀ : List ℕ) where
  -- The run of the rest from the place of a cursor.
  abbrev ahead : Cursor → ℕ → List Told
  ahead c k = reader_run (layout_for s) s (cursor_place c) (calls_of (drop k codes))

  pub record Running (log : List ℕ) (c : Cursor) (k : ℕ) : Type 0 where
    pub held : Held s c
    pub within : k ≤ length codes
    pub done : List Told
    pub count : length done ≡ k
    pub all : ran_of s codes ≡ done ++ ahead c k
    pub is : log ≡ log_after done log₀

  pub long : 11 * length codes ≤ length log₀ → {log : List ℕ} {c : Cursor} {k : ℕ} → Running log c k → length log ≡ length log₀
  long room r =
      ap length r.is ∙ simp (length-append, length-drop) (omega (arith, length_entries r.done, r.count, r.within))

  -- There is room for one more entry.
  pub fits_more : 11 * length codes ≤ length log₀ → {log : List ℕ} {c : Cursor} {k : ℕ} → Running log c k → k < length codes →
      11 * k + 11 ≤ length log
  fits_more room r less = omega (arith, long room r)

  pub begun : Running log₀ no_cursor 0
  unfolding open_units open_ranks entries
  begun = record { held = λ some. absurd (some refl); within = omega arith; done = []; count = refl; all = refl; is = refl }

  -- What is told of a turn is what the reader tells of its call.
  told_is : (v : ReaderPlace) (c : Call) (k : Cursor) (r : Result Outcome Fault) (part : Part) → reply_from k r ≡ call_of (layout_for s) s v c →
      part ≡ part_by c (number_told r) v.last.start v.last.end →
      told_of r part ≡ tells (layout_for s) s v c
  told_is v c k r part is by =
      let number = number_is k r ∙ ap (λ (x : Reply). x.number) is in
      let taken : part ≡ part_taken (layout_for s) s v c =
      by ∙ ap (λ n. part_by c n v.last.start v.last.end) number ∙ sym (taken_is s v c) in
      telling_is k r part ∙ ap (telling (reply_from k r)) taken ∙ ap (λ (x : Reply). telling x (part_taken (layout_for s) s v c)) is

  module _ {log : List ℕ} {c : Cursor} {k : ℕ} (r : Running log c k) where
    pub on : k < length codes → known_code (get_or codes k 0) ≡ true → (q : Result Outcome Fault) (part : Part) →
        (let call = call_by (get_or codes k 0) in
        reply_from (cursor_kept call c) q ≡ call_of (layout_for s) s (cursor_place c) call → Held s (cursor_after call c q) →
        part ≡ part_by call (number_told q) c.last.start c.last.end → (entry : List ℕ) → entry ≡ entry_of (told_of q part) →
        Running (put_mid (11 * k) (11 * k + 11 - 11 * k) log entry) (cursor_after call c q) (k + 1))
    on less known q part w held by entry is =
        let code = get_or codes k 0 in
        let then = cursor_after (call_by code) c q in
        let at = 11 * k in
        let told = tells (layout_for s) s (cursor_place c) (call_by code) in
        let calls : calls_of (drop k codes) ≡ call_by code ∷ calls_of (drop (suc k) codes) =
        rw (drop-cons codes k 0 less) (calls_known code (drop (suc k) codes) known) in
        let next : ahead c k ≡ told ∷ ahead then (suc k) =
        rw calls (reader_on (layout_for s) s (cursor_place c) (call_by code) (calls_of (drop (suc k) codes))
        ∙ ap (λ (r : Reply). told ∷ reader_run (layout_for s) s r.place (calls_of (drop (suc k) codes))) (sym w)
        ∙ ap (λ (v : ReaderPlace). told ∷ reader_run (layout_for s) s v (calls_of (drop (suc k) codes))) (place_is (call_by code) c q)) in
        let front = entries r.done in
        let old = drop (11 * length r.done) log₀ in
        let size : length front ≡ at = omega (arith, length_entries r.done, r.count) in
        let kept : take at log ≡ front = rw r.is (take_at front old at size) in
        let cut : drop (at + 11 - at) (drop at log) ≡ drop (11 * length r.done + 11) log₀ =
        rw (minus_plus 11 at) (ap (λ l. drop 11 (drop at l)) r.is ∙ ap (drop 11) (drop_at front old at size) ∙ drop-drop 11 (11 * length r.done) log₀) in
        let same : told_of q part ≡ told = told_is (cursor_place c) (call_by code) (cursor_kept (call_by code) c) q part w by in
        let more : 11 * length (r.done ++ (told ∷ [])) ≡ 11 * length r.done + 11 = simp length-append (omega arith) in
        record {
          held = held;
          within = omega arith;
          done = r.done ++ (told ∷ []);
          count = simp length-append (omega (arith, r.count));
          all = rw add-one (r.all ∙ ap (λ ts. r.done ++ ts) next ∙ sym (append_snoc r.done told (ahead then (suc k))));
          is =
              ap (λ l. l ++ (entry ++ drop (at + 11 - at) (drop at log))) kept
              ∙ ap (λ l. front ++ (entry ++ l)) cut
              ∙ ap (λ l. front ++ (l ++ drop (11 * length r.done + 11) log₀)) (is ∙ ap entry_of same)
              ∙ sym (append_assoc front (entry_of told) (drop (11 * length r.done + 11) log₀))
              ∙ ap (λ es. es ++ drop (11 * length r.done + 11) log₀) (sym (entries_more r.done told))
              ∙ ap (λ n. entries (r.done ++ (told ∷ [])) ++ drop n log₀) (sym more);
        }

    -- Where no call follows, all is done.
    pub finished : calls_of (drop k codes) ≡ [] → (k ≡ length (ran_of s codes)) × (log ≡ log_after (ran_of s codes) log₀)
    finished none =
        let all : ran_of s codes ≡ r.done =
        r.all ∙ ap (λ cs. r.done ++ reader_run (layout_for s) s (cursor_place c) cs) none
        ∙ ap (λ ts. r.done ++ ts) (reader_none (layout_for s) s (cursor_place c)) ∙ append-nil r.done in
        (sym r.count ∙ ap length (sym all), r.is ∙ ap (λ ts. log_after ts log₀) (sym all))

    pub ended_unknown : k < length codes → known_code (get_or codes k 0) ≡ false → calls_of (drop k codes) ≡ []
    ended_unknown less e = rw (drop-cons codes k 0 less) (calls_unknown (get_or codes k 0) (drop (suc k) codes) e)

    pub ended_all : length codes ≤ k → calls_of (drop k codes) ≡ []
    ended_all h = rw (drop_of_length-le codes h) calls_none
