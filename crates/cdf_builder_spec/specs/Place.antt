-- The builder's place as document 01 has it ("Builder"), and when it fits a buffer of n bytes, over the layout: a clause of 01
-- for each line of `clauses`.
use Rattle.std.specs.Prelude.{ℕ, ◌+◌, Bool, false, not, ◌&&◌, List, [], ◌∷◌, length, leb, eqb}
use Rattle.cdf_unit_table.specs.States.{unit_of, root_kind, admits_kind, skipped}
use Rattle.cdf_unit_prefix.specs.Layout.{Layout, prefix_of}
use Rattle.cdf_reader_spec.specs.Place.{nested, every, is_state, all}
use Rattle.cdf_builder_spec.specs.declared.Begun.{Begun}

-- The number of bytes written, and the open units, the innermost first.
pub record BuilderPlace : Type 0 where
  pub written : ℕ
  pub units : List Begun

-- A state of a unit that is built: the builder skips none.
abbrev pub buildable : ℕ → Bool
buildable s = is_state s && not (eqb s (skipped s))

-- What is written lies past the innermost unit's prefix.
unfoldable pub past_prefix : Layout → ℕ → List Begun → Bool
past_prefix l written [] = false
past_prefix l written (o ∷ os) = leb (o.start + prefix_of l) written

unfoldable pub clauses : Layout → ℕ → BuilderPlace → List Bool
clauses l n p =
    -- what is written lies in the buffer, and within the limit
    leb p.written n
    ∷ leb p.written l.limit
    -- one to five units are open
    ∷ (leb 1 (length p.units) && leb (length p.units) 5)
    -- the outermost is of a root's kind, each other of one that the unit outside it admits
    ∷ nested (λ o. root_kind (unit_of o.state)) (λ p o. admits_kind (unit_of p.state) (unit_of o.state)) p.units
    -- and each is in one of its states, but for 'skipped'
    ∷ every (λ o. buildable o.state) p.units
    -- the outermost starts at 0, each other a prefix further inside at least
    ∷ nested (λ o. eqb o.start 0) (λ p o. leb (p.start + prefix_of l) o.start) p.units
    ∷ past_prefix l p.written p.units
    ∷ []

unfoldable pub fits : Layout → ℕ → BuilderPlace → Bool
unfolding all clauses
fits l n p = all (clauses l n p)
