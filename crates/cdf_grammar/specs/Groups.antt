-- Groups from the bytes of their units.
use Rattle.std.specs.Prelude.{ℕ, ◌≡◌, length, List, [], ◌∷◌, map}
use mathlib.Core.List.{flatten}
use Rattle.cdf_unit_table.specs.States.{nothing}
use Rattle.cdf_unit_prefix.specs.Layout.{Layout, length_at}
use Rattle.cdf_unit_list.specs.Check.{check_in}
use Rattle.cdf_grammar.specs.Trees.{Forest, none, tree, singly}
use Rattle.cdf_grammar.specs.Encoding.{Stream, unit_bytes, encode}

-- These bytes are one whole unit, which the check accepts by itself in a group of this id that has had nothing.
pub record Child (l : Layout) (group : ℕ) (s : List ℕ) : Type 0 where
  pub accepted : (check_in l (nothing group) s).number ≡ 0
  pub whole : length_at l s ≡ length s

abbrev pub Children : Layout → ℕ → List (List ℕ) → Type 0
Children l group [] = record {}
Children l group (s ∷ units) = Child l group s × Children l group units

-- A group of this id: its prefix, and then these units.
unfoldable pub group_bytes : Layout → ℕ → List (List ℕ) → List ℕ
unfolding unit_bytes flatten
group_bytes l group units = unit_bytes l group 0 [] (flatten units)

-- It is a stream, and the trees in its root are those of the units, one by one.
pub record Holds (l : Layout) (group : ℕ) (units : List (List ℕ)) : Type 0 where
  pub held : Forest
  pub trees : map (encode l) (singly held) ≡ units
  pub stream : Stream l (group_bytes l group units) (tree group 0 [] held none)
