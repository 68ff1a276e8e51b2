-- The claims of this crate, proved.
use Rattle.std.proofs.Common.{ℕ, ◌≤◌, ◌≡◌, refl, ap, ◌∙◌, Bool, true, false, cond, ◌&&◌, List, [], ◌∷◌, ◌++◌, map, ◌⊎◌, inl, inr, arith, le-leb, leb}
use Rattle.std.proofs.Common.{length}
use Rattle.std.proofs.lemmas.Bool.{lt-leb}
use Rattle.std.proofs.lemmas.List.{length-map}
use Rattle.cdf_reader_replay_spec.specs.Replay.{calls_of, ran_of, log_after, too_short}
use Rattle.cdf_reader_replay_spec.proofs.Proved.{writes}
use Rattle.cdf_table_reader_replay_spec.specs.Replay.{shared_code, heard}
use Rattle.cdf_table_reader_replay_spec.specs.Claims.{Calls, Claims}

shared : (code : ℕ) → 1 ≤ code → code ≤ 3 → shared_code code ≡ true
shared code low high = rw (le-leb 1 code low, le-leb code 3 high)

-- The calls are heard as they are, and any other code as 0.
heard_calls : (codes : List ℕ) → Calls codes → map heard codes ≡ codes
heard_calls [] is = refl
heard_calls (code ∷ codes) is = rw (shared code is.0 is.1, heard_calls codes is.2)

heard_other : (other : ℕ) → (other ≡ 0) ⊎ (4 ≤ other) → heard other ≡ 0
heard_other other (inl e) = rw e
heard_other other (inr h) = rw (lt-leb other 3 (omega arith)) (go (leb 1 other))
  where
    go : (b : Bool) → cond (b && false) other 0 ≡ 0
    go true = refl
    go false = refl

-- So the calls of the run are those before it.
calls_ended : (codes : List ℕ) → Calls codes → (other : ℕ) → heard other ≡ 0 → (more : List ℕ) →
    calls_of (map heard (codes ++ other ∷ more)) ≡ calls_of codes
unfolding calls_of
calls_ended [] is other mute more = rw mute
calls_ended (code ∷ codes) is other mute more = rw (shared code is.0 is.1, calls_ended codes is.2 other mute more)

pub proved : Claims
proved = record {
  alike = λ s codes is before number after answer w. rw (heard_calls codes is) at w;
  ended = λ s codes is other none more before room number after answer w.
      let all = codes ++ other ∷ more in
      writes s (map heard all) (ran_of s codes) (rw (calls_ended codes is other (heard_other other none) more)) before
      (rw (length-map all heard) room) number after answer w;
  short = λ s codes before e number after answer w.
      let short : too_short (map heard codes) before ≡ true = rw (length-map codes heard) e in (
        w.told ∙ ap (λ b. cond b 12 0) short,
        w.logged ∙ ap (λ b. cond b before (log_after (ran_of s (map heard codes)) before)) short,
        w.counted ∙ ap (λ b. cond b 0 (length (ran_of s (map heard codes))) ∷ []) short,
      );
}
