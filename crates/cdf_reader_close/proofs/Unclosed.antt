-- The units that closing leaves: they are what is left of all, and the innermost of them is incomplete if it ends there.
use Rattle.std.proofs.Common.{ℕ, ◌≡◌, refl, sym, ap, ◌∙◌, Bool, true, false, cond, ◌&&◌, true≢false, List, [], ◌∷◌, ◌++◌, arith, eq-eqb, eqb, length}
use Rattle.cdf_unit_table.specs.States.{complete}
use Rattle.cdf_unit_list.specs.Stack.{incomplete, left, close}
use Rattle.cdf_unit_list.specs.declared.Open.{Open}
use Rattle.cdf_reader_spec.specs.Closing.{unclosed}

abbrev first_or : Open → List Open → Open
first_or o [] = o
first_or o (x ∷ os) = x

module _ (pos : ℕ) where
  -- What closing comes to is decided by them.
  pub close_unclosed : (os : List Open) → close os pos ≡ close (unclosed os pos) pos
  unfolding close unclosed
  close_unclosed [] = refl
  close_unclosed (o ∷ os) = go (eqb o.end pos) refl (complete o.state) refl (close_unclosed os)
    where
      go : (a : Bool) → eqb o.end pos ≡ a → (b : Bool) → complete o.state ≡ b → close os pos ≡ close (unclosed os pos) pos →
          cond a (cond b (close os pos) (incomplete o.start)) (left (o ∷ os)) ≡ close (cond (a && b) (unclosed os pos) (o ∷ os)) pos
      go true x true y more = more
      go true x false y more = rw (x, y)
      go false x b y more = rw x

  pub front : (os : List Open) → (closed : List Open) × (os ≡ closed ++ unclosed os pos)
  unfolding unclosed
  front [] = ([], refl)
  front (o ∷ os) = go (eqb o.end pos && complete o.state) (front os)
    where
      go : (b : Bool) → (closed : List Open) × (os ≡ closed ++ unclosed os pos) →
          (closed : List Open) × (o ∷ os ≡ closed ++ cond b (unclosed os pos) (o ∷ os))
      go true w = (o ∷ w.0, ap (λ (us : List Open). o ∷ us) w.1)
      go false w = ([], refl)

  pub stops : (os : List Open) (o : Open) (rest : List Open) → unclosed os pos ≡ o ∷ rest → o.end ≡ pos → complete o.state ≡ false
  unfolding unclosed
  stops [] o rest e at = absurd (omega (arith, ap length e))
  stops (x ∷ os) o rest e at = go (eqb x.end pos) refl (complete x.state) refl (λ f. stops os o rest f at) e
    where
      go : (a : Bool) → eqb x.end pos ≡ a → (b : Bool) → complete x.state ≡ b →
          (unclosed os pos ≡ o ∷ rest → complete o.state ≡ false) →
          cond (a && b) (unclosed os pos) (x ∷ os) ≡ o ∷ rest → complete o.state ≡ false
      go true p true q more f = more f
      go true p false q more f = sym (ap (λ us. complete (first_or x us).state) f) ∙ q
      go false p b q more f =
          absurd (true≢false (sym (eq-eqb x.end pos (ap (λ us. (first_or x us).end) f ∙ at)) ∙ p))
