-- The ids that pass a test, found one after the other and kept in entries that were 0.
use Rattle.std.proofs.Common.{ℕ, ◌+◌, ◌<◌, ◌≤◌, ◌≡◌, refl, Bool, true, false, not, List, [], ◌∷◌, append-nil, arith, add-one, eqb, length, set}
use Rattle.std.proofs.Common.{replicate, length-append}
use Rattle.cdf_unit_table.specs.Ids.{member, ids_end}
use Rattle.cdf_unit_table.specs.States.{admit, root_kind}
use Rattle.cdf_unit_table.specs.Tables.{those}
use Rattle.cdf_unit_table.proofs.Bools.{of_cond}
use Rattle.cdf_unit_table.proofs.Rows.{admit_none}
use Rattle.cdf_unit_table.specs.Entries.{padded}
use Rattle.cdf_unit_table.proofs.Entries.{pad_on}
use Rattle.cdf_explain.specs.Parts.{mays_at}

-- 0 is no unit's id.
pub none_stands : (count state : ℕ) → mays_at count state 0 ≡ false
unfolding root_kind member
none_stands count state =
    of_cond (λ b. b ≡ false) (eqb count 0) (root_kind 0) (not (eqb (admit state 0) 0)) (λ e. refl) (λ e. rw (admit_none state))

module _ (f : ℕ → Bool) where
  -- The ids below this one are in their entries.
  pub record Filled (ids : List ℕ) (found id : ℕ) : Type 0 where
    pub is : ids ≡ padded 14 (those f id)
    pub count : found ≡ length (those f id)
    pub few : found < id
    pub known : id ≤ ids_end

  pub begun : f 0 ≡ false → Filled (replicate 14 0) 0 1
  unfolding those
  begun none = record { is = rw none; count = rw none; few = omega arith; known = omega arith }

  pub taken : (ids : List ℕ) (found id : ℕ) → Filled ids found id → id < ids_end → f id ≡ true → Filled (set ids found id) (found + 1) (id + 1)
  unfolding those
  taken ids found id g h t =
      rw (add-one id) (record {
        is = rw (t, g.is, g.count) (pad_on 14 (those f id) id (omega (arith, g.count, g.few)));
        count = rw (t, length-append (those f id) (id ∷ []), g.count);
        few = omega (arith, g.few);
        known = omega arith;
      })

  pub passed : (ids : List ℕ) (found id : ℕ) → Filled ids found id → id < ids_end → f id ≡ false → Filled ids found (id + 1)
  unfolding those
  passed ids found id g h t =
      rw (add-one id) (record {
        is = rw t (simp append-nil g.is);
        count = rw t (simp append-nil g.count);
        few = omega (arith, g.few);
        known = omega arith;
      })
