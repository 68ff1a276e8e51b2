-- Content models: which sequences of units may stand in a unit, as regular expressions over their ids.
use Rattle.std.specs.Prelude.{ℕ, ◌≡◌, List, [], ◌∷◌, ◌++◌, ◌⊎◌}

pub data Content : Type 0 where
  -- no unit: the source's <NULL>
  empty : Content
  -- one unit of this id
  one : ℕ → Content
  -- the first, then the second
  both : Content → Content → Content
  -- the first or the second
  either : Content → Content → Content
  -- any number: the source's <x_list> ::= <x> <x_list> | <NULL>
  many : Content → Content

-- one or more: the source's <x_list> ::= <x> <x_list> | <x>
abbrev pub some : Content → Content
some c = both c (many c)

-- A sequence that is cut into pieces which all have a property.
pub data Pieces (P : List ℕ → Type 0) : List ℕ → Type 0 where
  end : {ids : List ℕ} → ids ≡ [] → Pieces P ids
  piece : {ids : List ℕ} (front rest : List ℕ) → ids ≡ front ++ rest → P front → Pieces P rest → Pieces P ids

-- The content model spells this sequence of ids.
abbrev pub Spells : Content → List ℕ → Type 0
Spells empty ids = ids ≡ []
Spells (one id) ids = ids ≡ id ∷ []
Spells (both a b) ids = (front : List ℕ) × (rest : List ℕ) × (ids ≡ front ++ rest) × Spells a front × Spells b rest
Spells (either a b) ids = Spells a ids ⊎ Spells b ids
Spells (many a) ids = Pieces (Spells a) ids
