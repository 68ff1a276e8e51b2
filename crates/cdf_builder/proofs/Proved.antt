-- The claims of this crate, proved.
use Rattle.std.proofs.Common.{ℕ, ◌≤◌, ◌≡◌, refl, List, [], ◌∷◌, arith, length}
use Rattle.cdf_reader_spec.specs.Slots.{around_of, held_of}
use Rattle.cdf_builder_spec.specs.declared.Begun.{Begun}
use Rattle.cdf_builder_spec.specs.Slots.{no_begun}
use Rattle.cdf_builder.specs.View.{view}
use Rattle.cdf_builder.specs.Words.{Word, BegunWords, AllWords, StructWords}
use Rattle.cdf_builder.specs.Claims.{Claims}
use Rattle.cdf_builder.specs.declared.Builder.{Builder}

zeros : BegunWords no_begun
zeros = (omega arith, omega arith)

module _ (written : ℕ) (w : Word written) where
  -- The struct with these units.
  struct : ℕ → Begun → Begun → Begun → Begun → Builder
  struct count top o1 o2 o3 = record { written = written; units = record { count = count; top = top; o1 = o1; o2 = o2; o3 = o3 } }

  abbrev Viewed : List Begun → Type 0
  Viewed os = (q : Builder) × StructWords q × (view q ≡ record { written = written; units = os })

  held : (count : ℕ) → count ≤ 4 → (top o1 o2 o3 : Begun) → BegunWords top → BegunWords o1 → BegunWords o2 → BegunWords o3 →
      StructWords (struct count top o1 o2 o3)
  unfolding struct
  held count few top o1 o2 o3 a b c d = record { written = w; count = omega arith; top = a; o1 = b; o2 = c; o3 = d }

  by_units : (os : List Begun) → length os ≤ 4 → AllWords os → Viewed os
  unfolding struct held_of around_of
  by_units [] few a =
      (struct 0 no_begun no_begun no_begun no_begun, held 0 (omega arith) no_begun no_begun no_begun no_begun zeros zeros zeros zeros, refl)
  by_units (t ∷ []) few a =
      (struct 1 t no_begun no_begun no_begun, held 1 (omega arith) t no_begun no_begun no_begun a.0 zeros zeros zeros, refl)
  by_units (t ∷ x ∷ []) few a =
      (struct 2 t x no_begun no_begun, held 2 (omega arith) t x no_begun no_begun a.0 a.1.0 zeros zeros, refl)
  by_units (t ∷ y ∷ x ∷ []) few a =
      (struct 3 t x y no_begun, held 3 (omega arith) t x y no_begun a.0 a.1.1.0 a.1.0 zeros, refl)
  by_units (t ∷ z ∷ y ∷ x ∷ []) few a =
      (struct 4 t x y z, held 4 (omega arith) t x y z a.0 a.1.1.1.0 a.1.1.0 a.1.0, refl)
  by_units (t ∷ z ∷ y ∷ x ∷ v ∷ os) few a = absurd (omega arith)

pub proved : Claims
proved = record { viewed = λ p few w. by_units p.written w.written p.units few w.units }
