-- As many units are open as a count says, and where some are, the innermost comes first.
use Rattle.std.proofs.Common.{ℕ, zero, suc, ◌≡◌, refl, ap, List, ◌∷◌, arith, ne_eqb, length}
use Rattle.std.specs.Option.{unwrap_or}
use Rattle.cdf_open_units.specs.Around.{around as unit_around}
use Rattle.cdf_open_units.specs.declared.OpenUnits.{OpenUnits}
use Rattle.cdf_unit_list.specs.declared.Open.{Open}
use Rattle.cdf_reader_spec.specs.Slots.{slot_of, around_of, held_of, around, open_units}

pub length_around : {A : Type 0} (none o1 o2 o3 : A) (k : ℕ) → length (around_of none o1 o2 o3 k) ≡ k
unfolding around_of
length_around none o1 o2 o3 zero = refl
length_around none o1 o2 o3 (suc k) = ap suc (length_around none o1 o2 o3 k)

pub length_held : {A : Type 0} (none : A) (count : ℕ) (top o1 o2 o3 : A) → length (held_of none count top o1 o2 o3) ≡ count
unfolding held_of
length_held none zero top o1 o2 o3 = refl
length_held none (suc k) top o1 o2 o3 = ap suc (length_around none o1 o2 o3 k)

-- Those around the innermost are so many with the next one as the innermost.
pub inner_held : {A : Type 0} (none o1 o2 o3 : A) (k : ℕ) → around_of none o1 o2 o3 k ≡ held_of none k (slot_of none o1 o2 o3 k) o1 o2 o3
unfolding held_of
inner_held none o1 o2 o3 zero = refl
inner_held none o1 o2 o3 (suc k) = refl

-- The same by the unit around the innermost.
pub next_held : {A : Type 0} (none : A) (u : OpenUnits A) (k : ℕ) →
    around_of none u.o1 u.o2 u.o3 k ≡ held_of none k (unwrap_or (unit_around u (suc k)) none) u.o1 u.o2 u.o3
unfolding held_of around_of
next_held none u zero = refl
next_held none u (suc zero) = refl
next_held none u (suc (suc zero)) = refl
next_held none u (suc (suc (suc zero))) = refl
next_held none u (suc (suc (suc (suc k)))) =
    let level : ℕ = suc (suc (suc (suc k))) in
    rw (
      ne_eqb level 1 (λ e. omega arith),
      ne_eqb level 2 (λ e. omega arith),
      ne_eqb level 3 (λ e. omega arith),
      ne_eqb (suc level) 2 (λ e. omega arith),
      ne_eqb (suc level) 3 (λ e. omega arith),
      ne_eqb (suc level) 4 (λ e. omega arith),
    )

pub length_open : (count : ℕ) (top o1 o2 o3 : Open) → length (open_units count top o1 o2 o3) ≡ count
unfolding open_units
length_open count top o1 o2 o3 = length_held _ count top o1 o2 o3

pub split : (count : ℕ) (top o1 o2 o3 : Open) → (count ≡ 0 → ⊥) → (os : List Open) × (open_units count top o1 o2 o3 ≡ top ∷ os)
unfolding open_units around
split zero top o1 o2 o3 some = absurd (some refl)
split (suc k) top o1 o2 o3 some = (around o1 o2 o3 k, refl)
