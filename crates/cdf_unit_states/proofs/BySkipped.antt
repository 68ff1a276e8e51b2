-- The unit of a state by the state in which the same unit was skipped.
use Rattle.std.proofs.Common.{ℕ, ◌≡◌, refl, sym, Bool, true, false, ◌||◌, List, inl, inr, ltb-true, ltb-false, T, eqb, ltb, eqb→eq}
use Rattle.cdf_unit_table.specs.States.{states_end, unit_of, skipped}
use Rattle.cdf_unit_table.proofs.Match.{Rest, member_of, differs}
use Rattle.cdf_unit_table.proofs.Rows.{no_unit}
use Rattle.cdf_unit_table.proofs.Skipping.{skipped_unit}
use Rattle.cdf_unit_table.proofs.Tests.{or_else, below, below_at}

pub by_skipped : (s k : ℕ) → k ≡ skipped s → unit_of s ≡ unit_of k
by_skipped s k e = rw e (sym (skipped_unit s))

-- Where that is none of the keys, there is no unit: at every state by one test.
module _ (keys : List (List ℕ)) (t : T (below (λ s. member_of keys (skipped s) || eqb (unit_of s) 0) states_end)) where
  pub of_none : (s k : ℕ) → k ≡ skipped s → Rest keys k → unit_of s ≡ 0
  of_none s k e rest = go (ltb s states_end) refl
    where
      go : (b : Bool) → ltb s states_end ≡ b → unit_of s ≡ 0
      go true q =
          elim (or_else (member_of keys (skipped s)) (eqb (unit_of s) 0)
          (below_at (λ s. member_of keys (skipped s) || eqb (unit_of s) 0) states_end t s (ltb-true s states_end q)))
          [ inl a ↦ absurd (differs keys (skipped s) k a rest e) | inr b ↦ eqb→eq (unit_of s) 0 b ]
      go false q = no_unit s (ltb-false s states_end q)
