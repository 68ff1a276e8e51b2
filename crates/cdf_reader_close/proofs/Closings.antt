-- Closing the units that end at a position, turn by turn.
use Rattle.std.proofs.Common.{ℕ, zero, suc, ◌-◌, ◌<◌, ◌≡◌, refl, sym, ◌∙◌, Bool, true, false, cond, ◌&&◌, List, ◌∷◌, arith, eq-eqb, eqb-true, eqb}
use Rattle.std.specs.Option.{unwrap_or}
use Rattle.cdf_open_units.specs.Around.{around as unit_around}
use Rattle.cdf_open_units.specs.declared.OpenUnits.{OpenUnits}
use Rattle.cdf_unit_table.specs.States.{complete}
use Rattle.cdf_unit_list.specs.declared.Open.{Open}
use Rattle.cdf_reader_spec.specs.Closing.{unclosed}
use Rattle.cdf_reader_spec.specs.Slots.{no_open, around, open_units}
use Rattle.cdf_reader_spec.proofs.Counted.{next_held}

module _ (position : ℕ) (before : List Open) (u : OpenUnits Open) where
  abbrev Units : ℕ → Open → List Open
  Units left inner = open_units left inner u.o1 u.o2 u.o3

  abbrev Around : ℕ → List Open
  Around k = around u.o1 u.o2 u.o3 k

  -- What the loop keeps: closing these comes to the same as closing all.
  abbrev pub Going : ℕ → Open → Type 0
  Going left inner = unclosed before position ≡ unclosed (Units left inner) position

  -- A unit that ends elsewhere, or is incomplete, stays open.
  stays : (left : ℕ) (inner : Open) → ((left ≡ 0 → ⊥) → inner.end ≡ position → complete inner.state ≡ false) →
      unclosed (Units left inner) position ≡ Units left inner
  unfolding unclosed open_units
  stays zero inner h = refl
  stays (suc k) inner h = go (eqb inner.end position) refl
    where
      go : (a : Bool) → eqb inner.end position ≡ a →
          cond (a && complete inner.state) (unclosed (Around k) position) (inner ∷ Around k)
          ≡ inner ∷ Around k
      go true x = rw (h (λ z. omega arith) (eqb-true inner.end position x))
      go false x = refl

  pub stopped : (left : ℕ) (inner : Open) → Going left inner →
      ((left ≡ 0 → ⊥) → inner.end ≡ position → complete inner.state ≡ false) →
      Units left inner ≡ unclosed before position
  stopped left inner g h = sym (g ∙ stays left inner h)

  pub on : (left : ℕ) (inner : Open) → Going left inner → 0 < left → inner.end ≡ position → complete inner.state ≡ true →
      (next : Open) → next ≡ unwrap_or (unit_around u left) no_open → Going (left - 1) next
  unfolding open_units unclosed
  on zero inner g some e full next is = absurd (omega arith)
  on (suc k) inner g some e full next is =
      let less : suc k - 1 ≡ k = omega arith in
      rw (less, is) (g ∙ rw (eq-eqb inner.end position e, full, next_held no_open u k))
