-- Trees of units.
use Rattle.std.specs.Prelude.{ℕ, suc, max, ◌+◌, List, [], ◌∷◌}

-- Trees one after the other: none, or a unit (its id, its action and its own data), the trees nested in it, and the trees after it.
pub data Forest : Type 0 where
  none : Forest
  tree : ℕ → ℕ → List ℕ → Forest → Forest → Forest

-- The ids of the trees' roots, in order.
unfoldable pub ids : Forest → List ℕ
ids none = []
ids (tree id action text inner rest) = id ∷ ids rest

-- The trees, each by itself.
unfoldable pub singly : Forest → List Forest
singly none = []
singly (tree id action text inner rest) = tree id action text inner none ∷ singly rest

-- How many units there are.
unfoldable pub units : Forest → ℕ
units none = 0
units (tree id action text inner rest) = suc (units inner + units rest)

-- How many units deep they are.
unfoldable pub depth : Forest → ℕ
depth none = 0
depth (tree id action text inner rest) = max (suc (depth inner)) (depth rest)
