-- The reader's place as document 01 has it ("Check and reader"), and when it fits n bytes, over the layout: a clause for each
-- line of `clauses`, eight of 01 and the ninth of 02, g.
use Rattle.std.specs.Prelude.{ℕ, ◌+◌, ◌*◌, Bool, true, false, not, ◌&&◌, ◌||◌, List, [], ◌∷◌, length, leb, ltb, eqb}
use Rattle.cdf_unit_table.specs.States.{unit_of, nothing, root_kind, admits_kind, states_end}
use Rattle.cdf_unit_prefix.specs.Layout.{Layout, prefix_of}
use Rattle.cdf_unit_list.specs.declared.Unit.{Unit}
use Rattle.cdf_unit_list.specs.declared.Open.{Open}

-- The position, the open units (`units`, the innermost first), the last unit handed out, and whether that one may still be skipped. Beside
-- them the ranks of the open units, in the same order, and of the last one (02, g).
pub record ReaderPlace : Type 0 where
  pub position : ℕ
  pub units : List Open
  pub last : Unit
  pub fresh : Bool
  pub ranks : List ℕ
  pub last_rank : ℕ

-- A place with no open unit is empty, whatever else it holds.
unfoldable pub is_empty : ReaderPlace → Bool
is_empty p = eqb (length p.units) 0

-- What is asked of the outermost unit, and of each other with the one outside it. Of no unit it does not hold. The reader and the
-- builder each have open units of their own.
unfoldable pub nested : {A : Type 0} → (A → Bool) → (A → A → Bool) → List A → Bool
nested root inner [] = false
nested root inner (o ∷ []) = root o
nested root inner (o ∷ p ∷ os) = inner p o && nested root inner (p ∷ os)

unfoldable pub every : {A : Type 0} → (A → Bool) → List A → Bool
every f [] = true
every f (o ∷ os) = f o && every f os

-- The number is a state's: the unit is one that admits others, and what it has had is possible for it.
abbrev pub is_state : ℕ → Bool
is_state s = leb 1 s && ltb s states_end

-- The position lies in the innermost unit, past its prefix.
unfoldable pub positioned : Layout → ℕ → List Open → Bool
positioned l position [] = false
positioned l position (o ∷ os) = leb (o.start + prefix_of l) position && leb position o.end

-- The last unit is the innermost one, nothing has come in it yet, and reading stands where its own data end.
unfoldable pub at_last : ℕ → List Open → Unit → Bool
at_last position [] u = false
at_last position (o ∷ os) u =
    (eqb (unit_of o.state) u.id && (eqb o.start u.start && eqb o.end u.end))
    && (eqb o.state (nothing (unit_of o.state)) && eqb position u.own)

unfoldable pub clauses : Layout → ℕ → ReaderPlace → List Bool
clauses l n p =
    -- one to five units are open
    (leb 1 (length p.units) && leb (length p.units) 5)
    -- the outermost is of a root's kind, each other of one that the unit outside it admits
    ∷ nested (λ o. root_kind (unit_of o.state)) (λ p o. admits_kind (unit_of p.state) (unit_of o.state)) p.units
    -- and each is in one of its states
    ∷ every (λ o. is_state o.state) p.units
    -- the outermost starts at 0, each other a prefix further inside at least
    ∷ nested (λ o. eqb o.start 0) (λ p o. leb (p.start + prefix_of l) o.start) p.units
    -- the outermost ends at n, no other after the unit outside it
    ∷ nested (λ o. eqb o.end n) (λ p o. leb o.end p.end) p.units
    ∷ positioned l p.position p.units
    -- the last unit: its prefix, its own data and its end lie in the n bytes, in this order
    ∷ (leb (p.last.start + prefix_of l) p.last.own && (leb p.last.own p.last.end && leb p.last.end n))
    -- which may be passed as a whole only where it was just handed out
    ∷ (not p.fresh || at_last p.position p.units p.last)
    -- each open unit has its rank, and neither one of these nor the last unit's, times the prefix, is above the position
    ∷ (eqb (length p.ranks) (length p.units) && every (λ r. leb (r * prefix_of l) p.position) (p.last_rank ∷ p.ranks))
    ∷ []

unfoldable pub all : List Bool → Bool
all [] = true
all (b ∷ bs) = b && all bs

unfoldable pub fits : Layout → ℕ → ReaderPlace → Bool
unfolding all clauses
fits l n p = all (clauses l n p)
