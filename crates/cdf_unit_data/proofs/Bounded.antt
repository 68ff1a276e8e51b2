-- The byte that values and numbers of a wrong size name.
use Rattle.std.proofs.Common.{ℕ, ◌+◌, ◌<◌, ◌≡◌, refl, Bool, true, false, cond, List, [], ◌∷◌, ◌⊎◌, inl, inr, ◌↔◌, arith, leb-true, leb-false, ne_eqb}
use Rattle.std.proofs.Common.{leb, eqb, length}
use Rattle.std.proofs.lemmas.Bool.{lt-leb, eqb-false}
use types.Run.{OneOf}
use Rattle.cdf_unit_table.specs.Ids.{call, parameter, template, temporary_key, template_key, field, entity_key, relation_key, line}
use Rattle.cdf_unit_table.proofs.Match.{each}
use Rattle.cdf_unit_table.proofs.Bools.{clash}
use Rattle.cdf_unit_data.specs.Data.{name_of, value_from, value_after, numbers_of, data_by, own_data_by, own_data}
use Rattle.cdf_unit_data.specs.Claims.{ValueAt, Alone, Leading}
use Rattle.std.specs.Prelude.{Ok, Err}

-- A test that fails exactly if this holds.
abbrev Fails : Bool → Type 0 → Type 0
Fails b P = (b ≡ false) ↔ P

-- What is broken if a test fails names its one byte.
broken_if : (b : Bool) (P : Type 0) (t j k : ℕ) → Fails b P → (cond b (Ok t) (Err j) ≡ Err k) ↔ (P × (k ≡ j))
broken_if true P t j k w = (
  (λ e. clash cc),
  (λ p. let e = w.1 p.0 in clash cc),
)
broken_if false P t j k w = ((λ e. (w.0 refl, cc)), (λ p. rw p.1))

over : (n m : ℕ) → Fails (leb n m) (m < n)
over n m = (leb-false n m, lt-leb n m)

apart : (n m : ℕ) → Fails (eqb m n) ((m < n) ⊎ (n < m))
apart n m = ((λ e. sides (eqb-false m n e)), (λ p. ne_eqb m n (differ p)))
  where
    sides : (m ≡ n → ⊥) → (m < n) ⊎ (n < m)
    sides d = go (leb n m) refl
      where
        go : (b : Bool) → leb n m ≡ b → (m < n) ⊎ (n < m)
        go true e = inr (omega (arith, leb-true n m e))
        go false e = inl (omega (arith, leb-false n m e))

    differ : (m < n) ⊎ (n < m) → m ≡ n → ⊥
    differ (inl h) e = omega arith
    differ (inr h) e = omega arith

module _ (s : List ℕ) where
  pub names : (id k : ℕ) → OneOf (call ∷ parameter ∷ template ∷ field ∷ entity_key ∷ []) id → name_of s ≡ Err k → own_data id s ≡ Err k
  unfolding own_data_by data_by value_after
  names id k o e =
      each (λ id. own_data id s ≡ Err k) (call ∷ parameter ∷ template ∷ field ∷ entity_key ∷ []) (e, (rw e, (e, (rw e, (e, record {}))))) id o

  value_is : (id at : ℕ) → ValueAt id s at → own_data id s ≡ value_from at s
  unfolding own_data_by data_by value_after
  value_is id at (inl (o, e)) = each (λ id. own_data id s ≡ value_from at s) (parameter ∷ field ∷ []) (rw e, (rw e, record {})) id o
  value_is id at (inr (o, e)) = each (λ id. own_data id s ≡ value_from at s) (template_key ∷ line ∷ []) (rw e, (rw e, record {})) id o

  pub values : (id at k : ℕ) → ValueAt id s at → (own_data id s ≡ Err k) ↔ ((at + 4096 < length s) × (k ≡ at + 4096))
  unfolding value_from
  values id at k w =
      rw (value_is id at w) (broken_if (leb (length s) (at + 4096)) (at + 4096 < length s) at (at + 4096) k (over (length s) (at + 4096)))

  pub cut_short : (id n k : ℕ) → Leading id n → (own_data id s ≡ Err k) ↔ ((length s < n) × (k ≡ 0))
  unfolding own_data_by data_by numbers_of
  cut_short id n k (inl (o, e)) = rw (o, e) (broken_if (leb 4 (length s)) (length s < 4) 4 0 k (over 4 (length s)))
  cut_short id n k (inr (o, e)) = rw (o, e) (broken_if (leb 8 (length s)) (length s < 8) 8 0 k (over 8 (length s)))

  pub too_long : (id n k : ℕ) → Alone id n → (own_data id s ≡ Err k) ↔ (((length s < n) ⊎ (n < length s)) × (k ≡ 0))
  unfolding own_data_by data_by numbers_of
  too_long id n k (o, e) =
      let four : (numbers_of 4 false s ≡ Err k) ↔ (((length s < 4) ⊎ (4 < length s)) × (k ≡ 0)) =
      broken_if (eqb (length s) 4) ((length s < 4) ⊎ (4 < length s)) 4 0 k (apart 4 (length s)) in
      rw e
      (each (λ id. (own_data id s ≡ Err k) ↔ (((length s < 4) ⊎ (4 < length s)) × (k ≡ 0))) (temporary_key ∷ relation_key ∷ [])
      (four, (four, record {})) id o)
