-- The tree of sample K2: a person with a temporary key and a surname.
use Rattle.std.specs.Prelude.{[], ◌∷◌}
use Rattle.cdf_grammar.specs.Trees.{Forest, none, tree}

abbrev pub person : Forest
person =
    tree 4 0 []
    (tree 5 1 (6 ∷ 0x50 ∷ 0x45 ∷ 0x52 ∷ 0x53 ∷ 0x4f ∷ 0x4e ∷ [])
    (tree 6 0 (0 ∷ 0 ∷ 0 ∷ 1 ∷ []) none
    (tree 8 1 (7 ∷ 0x53 ∷ 0x55 ∷ 0x52 ∷ 0x4e ∷ 0x41 ∷ 0x4d ∷ 0x45 ∷ 0xc3 ∷ 0x85 ∷ 0x73 ∷ []) none none))
    none)
    none
