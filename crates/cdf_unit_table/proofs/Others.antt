-- The ids that no arm of a `match` names: their actions and their own data.
use Rattle.std.proofs.Common.{ℕ, ◌≤◌, ◌≡◌, refl, Bool, true, false, ◌&&◌, ◌||◌, List, [], ◌∷◌, arith, le-leb, le-ltb, eqb-true, T, eqb}
use mathlib.Core.Bool.{or-false}
use lib.ListN.{get_or-eq_default}
use Rattle.cdf_unit_table.specs.Ids.{member, Rule, blank, name, name_value, value, numbers, Kind, kinds, kind_of, known, action_allowed, ids_end}
use Rattle.cdf_unit_table.proofs.Tests.{below, and_left, and_right, is_true}
use Rattle.cdf_unit_table.proofs.Match.{Rest, member_of, else_at}

unknown_kind : Kind
unknown_kind = record { actions = []; rule = blank }

beyond : (k : ℕ) → ids_end ≤ k → kind_of k ≡ unknown_kind
unfolding kind_of unknown_kind
beyond k h = get_or-eq_default kinds unknown_kind h

-- the action none alone, or nothing at all
abbrev pub none_only : Bool → List ℕ → Bool
none_only false [] = true
none_only true [] = false
none_only b (a ∷ []) = b && eqb a 0
none_only b (a ∷ c ∷ acts) = false

none_only_lem : (b : Bool) (acts : List ℕ) (a : ℕ) → T (none_only b acts) → (b && eqb a 0) ≡ member a acts
unfolding member
none_only_lem false [] a t = refl
none_only_lem true [] a t = absurd t
none_only_lem b (x ∷ []) a t =
    rw (is_true b (and_left b (eqb x 0) t), eqb-true x 0 (is_true (eqb x 0) (and_right b (eqb x 0) t)), or-false)
none_only_lem b (x ∷ y ∷ acts) a t = absurd t

-- any other unit has the action none, and what is no unit has no action
pub none_else : (kss : List (List ℕ)) → T (below (λ k. member_of kss k || none_only (known k) (kind_of k).actions) ids_end) → (id action : ℕ) → Rest kss id →
    (known id && eqb action 0) ≡ action_allowed id action
unfolding action_allowed known unknown_kind
none_else kss t id action rest =
    none_only_lem (known id) (kind_of id).actions action
    (else_at (λ k. none_only (known k) (kind_of k).actions) kss ids_end t past id rest)
  where
    past : (k : ℕ) → ids_end ≤ k → T (none_only (known k) (kind_of k).actions)
    past k h = rw (le-leb 1 k (omega arith), le-ltb k ids_end h, beyond k h) tt

abbrev pub is_blank : Rule → Bool
is_blank blank = true
is_blank name = false
is_blank name_value = false
is_blank value = false
is_blank (numbers n) = false

-- any other id has no own data
pub blank_else : (kss : List (List ℕ)) → T (below (λ k. member_of kss k || is_blank (kind_of k).rule) ids_end) → (id : ℕ) → Rest kss id →
    (kind_of id).rule ≡ blank
unfolding unknown_kind
blank_else kss t id rest = is_blank_lem (kind_of id).rule (else_at (λ k. is_blank (kind_of k).rule) kss ids_end t past id rest)
  where
    is_blank_lem : (r : Rule) → T (is_blank r) → r ≡ blank
    is_blank_lem blank t = refl
    is_blank_lem name t = absurd t
    is_blank_lem name_value t = absurd t
    is_blank_lem value t = absurd t
    is_blank_lem (numbers n) t = absurd t

    past : (k : ℕ) → ids_end ≤ k → T (is_blank (kind_of k).rule)
    past k h = rw (beyond k h) tt
