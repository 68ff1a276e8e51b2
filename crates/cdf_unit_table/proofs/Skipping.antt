-- The skipped state: by the ends of the units' ranges, and as what it is. At every state by computation, past them by law.
use Rattle.std.proofs.Common.{ℕ, ◌≤◌, ◌≡◌, refl, cond, ◌&&◌, arith, le-ltb, leb-true, leb, ltb, ltb→lt}
use Rattle.std.proofs.lemmas.Bool.{lt-leb}
use mathlib.Core.Bool.{and-false}
use Rattle.cdf_unit_table.specs.States.{parents, states_end, unit_of, skipped, complete, stream_new, stream_skipped, er_skipped, file_skipped}
use Rattle.cdf_unit_table.specs.States.{call_skipped, template_skipped, relation_skipped, ordered_skipped, entity_skipped}
use Rattle.cdf_unit_table.proofs.Bools.{both}
use Rattle.cdf_unit_table.proofs.Tests.{agree}
use Rattle.cdf_unit_table.proofs.Tables.{same}
use Rattle.cdf_unit_table.proofs.Rows.{from_parents, no_unit}

unfoldable pub skipped_by : ℕ → ℕ
skipped_by s =
    cond (ltb s stream_new) 0
    (cond (leb s stream_skipped) stream_skipped
    (cond (leb s er_skipped) er_skipped
    (cond (leb s file_skipped) file_skipped
    (cond (leb s call_skipped) call_skipped
    (cond (leb s template_skipped) template_skipped
    (cond (leb s relation_skipped) relation_skipped
    (cond (leb s ordered_skipped) ordered_skipped (cond (leb s entity_skipped) entity_skipped 0))))))))

-- A number past the states is no unit's, skipped or not.
past : (s : ℕ) → states_end ≤ s → skipped s ≡ 0
unfolding skipped
past s h =
    from_parents (λ n. n ≡ 0) (λ p. ltb p.last states_end) (λ p. leb p.first s && leb s p.last) (λ p. p.last) refl
    (λ p t e. absurd (omega (arith, ltb→lt p.last states_end t, leb-true s p.last (both (leb p.first s) _ e).1))) parents tt

by_past : (s : ℕ) → states_end ≤ s → skipped_by s ≡ skipped s
unfolding skipped_by
by_past s h =
    rw (
      past s h,
      le-ltb s stream_new (omega arith),
      lt-leb s stream_skipped (omega arith),
      lt-leb s er_skipped (omega arith),
      lt-leb s file_skipped (omega arith),
      lt-leb s call_skipped (omega arith),
      lt-leb s template_skipped (omega arith),
      lt-leb s relation_skipped (omega arith),
      lt-leb s ordered_skipped (omega arith),
      lt-leb s entity_skipped (omega arith),
    )

pub skipped_is : (s : ℕ) → skipped_by s ≡ skipped s
unfolding skipped_by skipped
skipped_is = same skipped_by skipped states_end refl by_past

-- A unit that is skipped stays the same unit,
pub skipped_unit : (s : ℕ) → unit_of (skipped s) ≡ unit_of s
unfolding unit_of skipped
skipped_unit = same (λ s. unit_of (skipped s)) unit_of states_end refl (λ s h. rw (past s h, no_unit s h))

-- and is complete; what is no state is not.
pub skipped_complete : (s : ℕ) → complete (skipped s) ≡ (leb 1 s && ltb s states_end)
unfolding complete skipped
skipped_complete =
    agree (λ s. complete (skipped s)) (λ s. leb 1 s && ltb s states_end) states_end tt
    (λ s h. rw (past s h, le-ltb s states_end h, and-false))
