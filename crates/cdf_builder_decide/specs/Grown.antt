-- What is decided, told as the format's decision; and what the private functions here promise each other.
use Rattle.std.specs.Prelude.{ℕ, ◌+◌, ◌≤◌, ◌<◌, ◌≡◌, cond, List, [], ◌∷◌, ◌++◌, eqb, Result, Ok, Err}
use Rattle.cdf_refusal.specs.Numbers.{number_of}
use Rattle.cdf_refusal.specs.declared.Refusal.{Refusal}
use Rattle.cdf_unit_prefix.specs.Layout.{Layout}
use Rattle.cdf_builder_spec.specs.Place.{BuilderPlace}
use Rattle.cdf_builder_spec.specs.Calls.{Decision, room}
use Rattle.cdf_builder_spec.specs.Slots.{units, placed}
use Rattle.cdf_builder_spec.specs.declared.Begun.{Begun}
use Rattle.cdf_builder_spec.specs.declared.Parts.{Parts}

-- A refusal leaves the place that was given.
abbrev pub decision_of : Parts → Result Parts Refusal → Decision
decision_of p (Ok q) = record { number = 0; place = placed q }
decision_of p (Err r) = record { number = number_of r; place = placed p }

-- The unit that is entered at a position, in its first state; none where that is 0.
abbrev pub entered : ℕ → ℕ → List Begun
entered first at = cond (eqb first 0) [] (record { state = first; start = at } ∷ [])

-- The place with so many bytes more, these units left open and the new one.
abbrev pub grown_by : Parts → ℕ → Begun → ℕ → ℕ → BuilderPlace
grown_by p count top size first =
    record { written = p.written + size; units = entered first p.written ++ units count top p.units.o1 p.units.o2 p.units.o3 }

-- The sum is a number of a struct, and where there is room for it, a unit that is entered has a slot.
pub record Growable (l : Layout) (n : ℕ) (p : Parts) (count size first : ℕ) : Type 0 where
  pub sum : p.written + size < 18446744073709551616
  pub slot : room l n (p.written + size) ≡ 0 → (first ≡ 0 → ⊥) → (1 ≤ count) × (count ≤ 3)

-- 13, 12, and else that place.
abbrev pub growing : Layout → ℕ → Parts → ℕ → Begun → ℕ → ℕ → Decision
growing l n p count top size first =
    let number : ℕ = room l n (p.written + size) in
    record { number = number; place = cond (eqb number 0) (grown_by p count top size first) (placed p) }
