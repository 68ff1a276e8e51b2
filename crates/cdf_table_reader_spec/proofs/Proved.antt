-- The term of the claims.
use Rattle.std.proofs.Common.{ℕ, ◌≡◌, refl, sym, Bool, true, false, cond, ◌⊎◌, inl, inr, length}
use Rattle.cdf_unit_table.specs.States.{nothing, root_kind, unit_of, admits_kind}
use Rattle.cdf_reader_spec.specs.Place.{nested, every, positioned, at_last}
use Rattle.cdf_table_reader_spec.specs.Table.{looked, entries}
use Rattle.cdf_table_reader_spec.specs.Samples.{tells, k2_calls, k2_due, k8, k8_calls, k8_due, k4_calls, k4_due}
use Rattle.cdf_unit_list.specs.Samples.{k2, k4}
use Rattle.cdf_table_reader_spec.specs.Claims.{Claims}
use Rattle.cdf_table_reader_spec.proofs.Looks.{row_is, root_is, keeps, at_entry, no_entry}
use Rattle.cdf_table_reader_spec.proofs.Driven.{by_next, by_first}
use Rattle.cdf_table_reader_spec.proofs.Alike.{run_alike}

stays_in : (state id : ℕ) → (state ≡ 0 → ⊥) → (looked entries state id ≡ 0) ⊎ (unit_of (looked entries state id) ≡ unit_of state)
stays_in state id some = rw (row_is state id some) (keeps state id)

starts : (id : ℕ) → (looked entries 0 id ≡ 0) ⊎ (looked entries 0 id ≡ nothing id)
starts id = rw (root_is id) (go (root_kind id))
  where
    go : (b : Bool) → (cond b (nothing id) 0 ≡ 0) ⊎ (cond b (nothing id) 0 ≡ nothing id)
    go true = inr refl
    go false = inl refl

full : length entries ≡ 434
unfolding entries
full = refl

-- The runs are computed. No law is cited, so that a wrong definition of a call is refused by its answers.
example : (tells k2 k2_calls ≡ k2_due) × (tells k8 k8_calls ≡ k8_due) × (tells k4 k4_calls ≡ k4_due)
unfolding tells nested every positioned at_last unit_of admits_kind
example = (refl, refl, refl)

pub claims : Claims
claims = record {
  placed = (full, λ table state id. (λ row low high. sym (at_entry table state id row low high), no_entry table state id));
  agrees = λ id. (λ state some. row_is state id some, root_is id);
  stays = λ id. (λ state some. stays_in state id some, starts id);
  driven = λ table l s. let begun = by_first table l s in (by_next table l s, begun.0, begun.1);
  same = run_alike;
  example = example;
}
