-- What is asked of one to four open units: their kinds together, then where they lie, then their ranks.
use Rattle.std.proofs.Common.{ℕ, ◌+◌, ◌≡◌, refl, sym, ap, ◌∙◌, Bool, true, false, ◌&&◌, leb, eqb}
use mathlib.Core.Bool.{and-true}
use Rattle.cdf_unit_table.specs.States.{unit_of, root_kind, admits_kind}
use Rattle.cdf_unit_prefix.specs.Layout.{Layout, prefix_of}
use Rattle.cdf_unit_list.specs.declared.Open.{Open}
use Rattle.cdf_reader_spec.specs.Tests.{spans}
use Rattle.cdf_reader_fit.proofs.Chains.{too_many}
use Rattle.cdf_reader.specs.declared.Place.{Place}
use Rattle.cdf_reader_open_numbers.specs.Held.{held}

-- Kinds and bounds, apart.
two_parted : (k l a b : Bool) → ((k && a) && (l && b)) ≡ ((k && l) && (a && b))
two_parted true true a b = refl
two_parted true false true b = refl
two_parted true false false b = refl
two_parted false l a b = refl

three_parted : (k l m a b c : Bool) → ((k && a) && ((l && b) && (m && c))) ≡ ((k && (l && m)) && (a && (b && c)))
three_parted k l m a b c = rw (two_parted l m b c) (two_parted k (l && m) a (b && c))

four_parted : (k l m o a b c d : Bool) →
    ((k && a) && ((l && b) && ((m && c) && (o && d)))) ≡ ((k && (l && (m && o))) && (a && (b && (c && d))))
four_parted k l m o a b c d = rw (three_parted l m o b c d) (two_parted k (l && (m && o)) a (b && (c && d)))

module _ (l : Layout) (n most : ℕ) (p : Place) where
  abbrev kinds : Open → Open → Bool
  kinds o i = admits_kind (unit_of o.state) (unit_of i.state)

  abbrev root : Bool
  root = root_kind (unit_of p.units.o1.state)

  -- The second lies in the first; the root spans the bytes.
  abbrev inside : Open → Open → Bool
  inside o i = leb (o.start + prefix_of l) i.start && leb i.end o.end

  abbrev whole : Bool
  whole = eqb p.units.o1.start 0 && eqb p.units.o1.end n

  abbrev low : ℕ → Bool
  low k = leb k most

  pub one : (spans n p.units.top && low p.ranks.top) ≡ held l n most p 1
  unfolding held
  one = sym (rw and-true)

  -- The kinds are tested first: where they are not right, nothing else is asked.
  abbrev Asked : ℕ → Bool → Bool → Type 0
  Asked count k rest = (k ≡ false → false ≡ held l n most p count) × (k ≡ true → rest ≡ held l n most p count)

  asked : (count : ℕ) (k lies lows : Bool) → held l n most p count ≡ ((k && lies) && lows) → Asked count k (lies && lows)
  asked count k lies lows is = (λ e. sym (is ∙ rw e), λ e. sym (is ∙ rw e))

  -- Of two units: their kinds, where they lie and their ranks; then of three and of four.
  abbrev kinds2 : Bool
  kinds2 = kinds p.units.o1 p.units.top && root

  abbrev lies2 : Bool
  lies2 = inside p.units.o1 p.units.top && whole

  abbrev lows2 : Bool
  lows2 = low p.ranks.top && low p.ranks.r1

  pub two : Asked 2 kinds2 (lies2 && lows2)
  unfolding held
  two = asked 2 kinds2 lies2 lows2 (rw (and-true (low p.ranks.r1)) (ap (λ b. b && lows2) (two_parted (kinds p.units.o1 p.units.top) root _ whole)))

  abbrev kinds3 : Bool
  kinds3 = kinds p.units.o2 p.units.top && (kinds p.units.o1 p.units.o2 && root)

  abbrev lies3 : Bool
  lies3 = inside p.units.o2 p.units.top && (inside p.units.o1 p.units.o2 && whole)

  abbrev lows3 : Bool
  lows3 = low p.ranks.top && (low p.ranks.r2 && low p.ranks.r1)

  pub three : Asked 3 kinds3 (lies3 && lows3)
  unfolding held
  three =
      asked 3 kinds3 lies3 lows3
      (rw (and-true (low p.ranks.r1))
      (ap (λ b. b && lows3) (three_parted (kinds p.units.o2 p.units.top) (kinds p.units.o1 p.units.o2) root _ _ whole)))

  abbrev kinds4 : Bool
  kinds4 = kinds p.units.o3 p.units.top && (kinds p.units.o2 p.units.o3 && (kinds p.units.o1 p.units.o2 && root))

  abbrev lies4 : Bool
  lies4 = inside p.units.o3 p.units.top && (inside p.units.o2 p.units.o3 && (inside p.units.o1 p.units.o2 && whole))

  abbrev lows4 : Bool
  lows4 = low p.ranks.top && (low p.ranks.r3 && (low p.ranks.r2 && low p.ranks.r1))

  pub four : Asked 4 kinds4 (lies4 && lows4)
  unfolding held
  four =
      asked 4 kinds4 lies4 lows4
      (rw (and-true (low p.ranks.r1))
      (ap (λ b. b && lows4) (four_parted (kinds p.units.o3 p.units.top) (kinds p.units.o2 p.units.o3) (kinds p.units.o1 p.units.o2) root _ _ _ whole)))

  -- No other number of units holds.
  pub other : (count : ℕ) → (count ≡ 1 → ⊥) → (count ≡ 2 → ⊥) → (count ≡ 3 → ⊥) → (count ≡ 4 → ⊥) → false ≡ held l n most p count
  unfolding held
  other count a b c d = rw (← too_many l n count p.units.top p.units.o1 p.units.o2 p.units.o3 a b c d)
