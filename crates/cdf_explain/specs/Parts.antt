-- What the private functions of `explain` promise each other, and what its impls state. No claim and no open function cites this file.
use Rattle.std.specs.Prelude.{ℕ, Bool, not, cond, List, [], ◌∷◌, map, reverse, eqb, ltb, length}
use Rattle.cdf_unit_table.specs.Ids.{ids_end}
use Rattle.cdf_unit_table.specs.States.{unit_of, admit, root_kind}
use Rattle.cdf_unit_table.specs.Tables.{those}
use Rattle.cdf_unit_list.specs.declared.Open.{Open}
use Rattle.cdf_reader_spec.specs.Slots.{no_open}
use Rattle.cdf_unit_table.specs.Entries.{padded}
use Rattle.cdf_explain.specs.Numbers.{ExplainedNumbers}
use Rattle.cdf_explain.specs.declared.OpenUnit.{OpenUnit}
use Rattle.cdf_explain.specs.declared.Choices.{Choices}

-- The unit at a level of so many open ones, from 1.
abbrev pub level : ℕ → ℕ → Open → Open → Open
level k count top outer = cond (eqb count k) top (cond (ltb k count) outer no_open)

-- An open unit as it is told.
abbrev pub unit_told : Open → OpenUnit
unit_told o = record { id = unit_of o.state; start = o.start }

-- An id may stand in the innermost of so many units, which is in this state, or as a root where there is none.
abbrev pub mays_at : ℕ → ℕ → ℕ → Bool
mays_at count state id = cond (eqb count 0) (root_kind id) (not (eqb (admit state id) 0))

abbrev pub ids_at : ℕ → ℕ → List ℕ
ids_at count state = those (mays_at count state) ids_end

abbrev pub choices_of : ℕ → ℕ → Choices
choices_of count state = record { count = length (ids_at count state); ids = padded 14 (ids_at count state) }

-- The state of the innermost of these units, which stands first; 0 where there is none.
abbrev pub innermost : List Open → ℕ
innermost [] = 0
innermost (o ∷ os) = o.state

-- The answer with these units open, the innermost first.
unfoldable pub told_at : ℕ → ℕ → List Open → ExplainedNumbers
told_at number offset os = record {
  number = number;
  offset = offset;
  depth = length os;
  units = padded 4 (map (λ (o : Open). unit_of o.state) (reverse os));
  starts = padded 4 (map (λ (o : Open). o.start) (reverse os));
  choices = length (ids_at (length os) (innermost os));
  ids = padded 14 (ids_at (length os) (innermost os));
}
