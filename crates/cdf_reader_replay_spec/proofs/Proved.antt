-- The claims of this crate, proved.
use Rattle.std.proofs.Common.{ℕ, zero, suc, ◌≡◌, refl, ap, ◌∙◌, cond, List, [], ◌∷◌, ◌++◌, length, replicate}
use Rattle.cdf_unit_prefix.specs.Layout.{edition_of, layout_for}
use Rattle.cdf_reader_spec.specs.declared.Call.TheVariants.{Start, Next}
use Rattle.cdf_reader_plain.specs.Calls.{Told}
use Rattle.cdf_reader_plain.proofs.Proved.{proved as plain}
use Rattle.cdf_reader_replay_spec.specs.Replay.{calls_of, ran_of, entries, log_after}
use Rattle.cdf_reader_replay_spec.specs.Claims.{Writes, one, other, Claims}
use Rattle.cdf_reader_replay_spec.proofs.Replaying.{calls_known, calls_none}

-- A replay writes what the reader tells.
pub writes : (s codes : List ℕ) (answers : List Told) → ran_of s codes ≡ answers → Writes s codes answers
writes s codes answers same before room number after answer w =
    let ran = ran_of s codes in (
      w.told ∙ ap (λ b. cond b 12 0) room,
      w.logged ∙ ap (λ b. cond b before (log_after ran before)) room ∙ ap (λ ts. log_after ts before) same,
      w.counted ∙ ap (λ b. cond b 0 (length ran) ∷ []) room ∙ ap (λ ts. length ts ∷ []) same,
    )

-- The calls of a start and k NEXTs.
next_calls : (k : ℕ) → calls_of (replicate k 2) ≡ replicate k Next
next_calls zero = calls_none
next_calls (suc k) = calls_known 2 (replicate k 2) refl ∙ ap (λ cs. Next ∷ cs) (next_calls k)

started : (k : ℕ) → calls_of (1 ∷ replicate k 2) ≡ Start ∷ replicate k Next
started k = calls_known 1 (replicate k 2) refl ∙ ap (λ cs. Start ∷ cs) (next_calls k)

entry_written : log_after (one ∷ other ∷ []) (replicate 22 0 ++ 91 ∷ 92 ∷ [])
    ≡ 41 ∷ 42 ∷ 43 ∷ 44 ∷ 45 ∷ 46 ∷ 47 ∷ 48 ∷ 49 ∷ 50 ∷ 51
    ∷ 61 ∷ 62 ∷ 63 ∷ 64 ∷ 65 ∷ 66 ∷ 67 ∷ 68 ∷ 69 ∷ 70 ∷ 71 ∷ 91 ∷ 92 ∷ []
unfolding entries
entry_written = refl

pub proved : Claims
proved = record {
  entry_written = entry_written;
  replays = λ s t stream.
      let r = plain.reads (edition_of s) s t stream in (
        r.0,
        r.1,
        r.2,
        λ codes. writes s (1 ∷ codes) _ (rw (calls_known 1 codes refl) (r.3.answers (calls_of codes))),
      );
  replays_nexts = λ s some k. writes s (1 ∷ replicate k 2) _ (rw (started k) (plain.nexts (layout_for s) s some k));
  replays_few = λ s k. (
    ran_of s (1 ∷ replicate k 2),
    writes s (1 ∷ replicate k 2) (ran_of s (1 ∷ replicate k 2)) refl,
    rw (started k) (plain.few (layout_for s) s k),
  );
}
