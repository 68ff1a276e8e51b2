-- The lengths of the open units, by how many there are.
use Rattle.std.proofs.Common.{ℕ, zero, suc, ◌+◌, ◌-◌, ◌≤◌, ◌<◌, ◌≡◌, refl, ap, ◌∙◌, cond, List, arith, leb, drop}
use Rattle.cdf_unit_prefix.specs.Layout.{Layout}
use Rattle.cdf_grammar.specs.Encoding.{bytes_of}
use Rattle.cdf_builder_write.specs.Patch.{patch}
use Rattle.cdf_reader_spec.specs.Slots.{around_of, held_of}
use Rattle.cdf_builder_spec.specs.Place.{BuilderPlace}
use Rattle.cdf_builder_spec.specs.Calls.{lengths}
use Rattle.cdf_builder_spec.specs.Slots.{place_of}
use Rattle.cdf_builder_spec.specs.declared.Begun.{Begun}
use Rattle.cdf_builder_spec.specs.declared.Parts.{Parts}
use Rattle.cdf_builder_append.specs.Held.{held}
use Rattle.cdf_builder_append.proofs.Held.{slots_four, slots_some}

module _ (l : Layout) (p : Parts) (s : List ℕ) where
  -- The bytes with the length of an open unit.
  abbrev with : Begun → List ℕ → List ℕ
  with o t = patch (o.start + 2) (bytes_of l.length_bytes (p.written - o.start)) t

  -- The place with so many of the units.
  abbrev of : ℕ → BuilderPlace
  of k = place_of p.written k p.units.top p.units.o1 p.units.o2 p.units.o3

  abbrev outer : ℕ → List ℕ
  outer k = lengths l p.written (drop 1 (of k).units) s

  abbrev Outer : List ℕ
  Outer = lengths l p.written (drop 1 (held p).units) s

  -- Those around the innermost one, from the outermost inwards.
  pub none : p.units.count < 2 → s ≡ Outer
  unfolding lengths held_of around_of
  none few = by p.units.count few
    where
      by : (count : ℕ) → count < 2 → s ≡ outer (cond (leb count 4) count 4)
      by zero few = refl
      by (suc zero) few = refl
      by (suc (suc k)) few = absurd (omega arith)

  module _ {a : List ℕ} (first : a ≡ with p.units.o1 s) where
    pub two : 2 ≤ p.units.count → p.units.count < 3 → a ≡ Outer
    unfolding lengths held_of around_of
    two some few = let e : p.units.count ≡ 2 = omega arith in first ∙ rw e

    module _ {b : List ℕ} (second : b ≡ with p.units.o2 a) where
      pub three : 3 ≤ p.units.count → p.units.count < 4 → b ≡ Outer
      unfolding lengths held_of around_of
      three some few = let e : p.units.count ≡ 3 = omega arith in second ∙ rw (e, first)

      pub four : 4 ≤ p.units.count → {c : List ℕ} → c ≡ with p.units.o3 b → c ≡ Outer
      unfolding lengths held_of around_of
      four many third = third ∙ rw (slots_four p.units.count many, second, first)

  abbrev All : List ℕ
  All = lengths l p.written (held p).units s

  -- All of them.
  pub empty : p.units.count ≡ 0 → s ≡ All
  unfolding lengths held_of
  empty e = rw e

  pub all : (p.units.count ≡ 0 → ⊥) → {t : List ℕ} → t ≡ Outer → with p.units.top t ≡ All
  unfolding lengths held_of
  all some {t} e = by (cond (leb p.units.count 4) p.units.count 4) (slots_some p.units.count some) e
    where
      by : (k : ℕ) → (k ≡ 0 → ⊥) → t ≡ outer k → with p.units.top t ≡ lengths l p.written (of k).units s
      by zero some e = absurd (some refl)
      by (suc k) some e = ap (with p.units.top) e
