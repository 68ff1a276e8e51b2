-- Which requests a tree of the published grammar is built by. Rows, places and the builder's steps are not mentioned.
use Rattle.std.specs.Prelude.{ℕ, zero, suc, ◌-◌, ◌≡◌, ◌⊎◌, List, [], ◌∷◌, ◌++◌}
use Rattle.cdf_unit_table.specs.Ids.{er_group, file_group}
use Rattle.cdf_unit_prefix.specs.Layout.{Layout}
use Rattle.cdf_grammar.specs.Trees.{Forest, none, tree, units}
use Rattle.cdf_grammar.specs.Published.{Among, InGrammar}
use Rattle.cdf_grammar.specs.Encoding.{Stream, Item, says}
use Rattle.cdf_builder_spec.specs.Requests.{Request, unit, group}

-- The requests tell of these trees, in order: each unit before those nested in it. A group may be told as a whole, by the bytes
-- of a stream that it is the root of.
abbrev pub Tells : Layout → Forest → List Request → Type 0
Tells l none rs = rs ≡ []
Tells l (tree id action text inner rest) rs =
    ((within : List Request) × (after : List Request)
    × (rs ≡ unit (record { id = id; action = action; text = text }) ∷ (within ++ after)) × Tells l inner within × Tells l rest after)
    ⊎ ((g : List ℕ) × (after : List Request) × (rs ≡ group g ∷ after) × Among id (er_group ∷ file_group ∷ [])
    × Stream l g (tree id action text inner none) × Tells l rest after)

-- They are the requests of a whole tree of the published grammar,
abbrev pub Whole : Layout → List Request → Type 0
Whole l rs = (t : Forest) × InGrammar t × Tells l t rs

-- or the first of such a tree's.
abbrev pub Begins : Layout → List Request → Type 0
Begins l rs = (more : List Request) × Whole l (rs ++ more)

-- Of units alone: they are the first that some tree says.
abbrev pub BeginUnits : List Item → Type 0
BeginUnits us = (t : Forest) × (more : List Item) × InGrammar t × (says t ≡ us ++ more)

-- The first n units of trees, each before those nested in it: the trees without the units that come later.
unfoldable pub first_units : Forest → ℕ → Forest
unfolding units
first_units none n = none
first_units (tree id action text inner rest) zero = none
first_units (tree id action text inner rest) (suc n) =
    tree id action text (first_units inner n) (first_units rest (n - units inner))
