-- Where the units of trees stand (02, g).
use Rattle.std.specs.Prelude.{ℕ, suc, List, [], ◌∷◌, ◌++◌}
use Rattle.cdf_grammar.specs.Trees.{Forest, none, tree}

-- The depth and the rank of each, before those nested in it: along the trees the ranks follow one another, from the one given on; nested units are
-- one deeper, and the first of them has rank 0.
unfoldable pub stands : ℕ → ℕ → Forest → List (ℕ × ℕ)
stands depth rank none = []
stands depth rank (tree id action text inner rest) = (depth, rank) ∷ (stands (suc depth) 0 inner ++ stands depth (suc rank) rest)
