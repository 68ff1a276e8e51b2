-- The ranges of states by which the code tests kinds: at every state by computation, past them by law.
use Rattle.std.proofs.Common.{ℕ, ◌≤◌, ◌≡◌, refl, Bool, true, false, cond, ◌&&◌, arith, ltb-true, ltb-false, leb, ltb}
use Rattle.std.proofs.lemmas.Bool.{lt-leb}
use mathlib.Core.Bool.{and-false}
use Rattle.cdf_unit_table.specs.States.{states_end, unit_of, root_kind, admits_kind, stream_new, stream_skipped, er_new, er_skipped, file_skipped}
use Rattle.cdf_unit_table.specs.States.{call_skipped, template_new, relation_new, ordered_skipped, entity_new, entity_skipped}
use Rattle.cdf_unit_table.proofs.Tests.{agree}
use Rattle.cdf_unit_table.proofs.Tables.{up_to, same_below, same}
use Rattle.cdf_unit_table.proofs.Rows.{no_unit, admits_none, none_admits}

root_past : (s : ℕ) → states_end ≤ s → (leb stream_new s && leb s file_skipped) ≡ root_kind (unit_of s)
unfolding root_kind
root_past s h = rw (lt-leb s file_skipped (omega arith), and-false, no_unit s h)

pub root_is : (s : ℕ) → (leb stream_new s && leb s file_skipped) ≡ root_kind (unit_of s)
unfolding root_kind unit_of
root_is = agree (λ s. leb stream_new s && leb s file_skipped) (λ s. root_kind (unit_of s)) states_end tt root_past

-- The kinds that lie in one another, as the code tests them.
unfoldable pub nests_by : ℕ → ℕ → Bool
nests_by p c =
    cond (leb er_new p && leb p er_skipped) (leb template_new c && leb c ordered_skipped)
    (cond (leb stream_new p && leb p stream_skipped) (leb er_new c && leb c call_skipped)
    (cond (leb relation_new p && leb p ordered_skipped) (leb entity_new c && leb c entity_skipped) false))

outer_past : (p c : ℕ) → states_end ≤ p → nests_by p c ≡ admits_kind (unit_of p) (unit_of c)
unfolding nests_by
outer_past p c h =
    rw (
      lt-leb p er_skipped (omega arith),
      lt-leb p stream_skipped (omega arith),
      lt-leb p ordered_skipped (omega arith),
      admits_none (unit_of p) (unit_of c) (no_unit p h),
    ) (simp and-false)

inner_past : (p c : ℕ) → states_end ≤ c → nests_by p c ≡ admits_kind (unit_of p) (unit_of c)
unfolding nests_by
inner_past p c h =
    rw (
      lt-leb c ordered_skipped (omega arith),
      lt-leb c call_skipped (omega arith),
      lt-leb c entity_skipped (omega arith),
      none_admits (unit_of p) (unit_of c) (no_unit c h),
    ) (simp and-false (go (leb er_new p && leb p er_skipped) (leb stream_new p && leb p stream_skipped) (leb relation_new p && leb p ordered_skipped)))
  where
    go : (x y z : Bool) → cond x false (cond y false (cond z false false)) ≡ false
    go true y z = refl
    go false true z = refl
    go false false true = refl
    go false false false = refl

pub nests_is : (p c : ℕ) → nests_by p c ≡ admits_kind (unit_of p) (unit_of c)
unfolding nests_by admits_kind unit_of
nests_is p c = go (ltb p states_end) refl
  where
    go : (b : Bool) → ltb p states_end ≡ b → nests_by p c ≡ admits_kind (unit_of p) (unit_of c)
    go true e =
        same (nests_by p) (λ c. admits_kind (unit_of p) (unit_of c)) states_end
        (same_below (λ p. up_to (nests_by p) states_end) (λ p. up_to (λ c. admits_kind (unit_of p) (unit_of c)) states_end) states_end refl p
        (ltb-true p states_end e))
        (inner_past p) c
    go false e = outer_past p c (ltb-false p states_end e)
