-- The open units that the parts of a struct are.
use Rattle.std.proofs.Common.{ℕ, zero, suc, ◌-◌, ◌<◌, ◌≡◌, ap, ◌∙◌, List, ◌∷◌, arith}
use Rattle.std.specs.Prelude.{Option}
use Rattle.std.specs.Option.{unwrap_or}
use Rattle.cdf_open_units.specs.Around.{around}
use Rattle.cdf_open_units.specs.declared.OpenUnits.{OpenUnits}
use Rattle.cdf_reader_spec.specs.Slots.{held_of}
use Rattle.cdf_reader_spec.proofs.Counted.{next_held}
use Rattle.cdf_builder_spec.specs.Slots.{no_begun, units}
use Rattle.cdf_builder_spec.specs.declared.Begun.{Begun}

-- Where there is one, the innermost comes first, and then the one around it.
pub units_first : (u : OpenUnits Begun) (count : ℕ) (top next : Begun) → 0 < count → next ≡ unwrap_or (around u count) no_begun →
    units count top u.o1 u.o2 u.o3 ≡ top ∷ units (count - 1) next u.o1 u.o2 u.o3
unfolding held_of
units_first u zero top next some is = absurd (omega arith)
units_first u (suc k) top next some is =
    let less : suc k - 1 ≡ k = omega arith in
    rw (less, is) (ap (λ (us : List Begun). top ∷ us) (next_held no_begun u k))

-- The one around it, as the code comes to it.
pub around_is : (u : OpenUnits Begun) (count : ℕ) {o : Option Begun} {none next : Begun} → o ≡ around u count →
    (none.state ≡ 0) × (none.start ≡ 0) → next ≡ unwrap_or o none → next ≡ unwrap_or (around u count) no_begun
around_is u count {o} {none} found zeros is =
    let nothing : none ≡ no_begun = λ i. record { state = zeros.0 i; start = zeros.1 i } in
    is ∙ ap (λ (d : Begun). unwrap_or o d) nothing ∙ ap (λ (p : Option Begun). unwrap_or p no_begun) found
