-- Trees in the words of the rules of one unit: what the published grammar asks, as the rows and the own data's rules ask it.
use Rattle.std.proofs.Common.{ℕ, ◌≡◌, refl, true, false, List, [], ◌∷◌, ◌++◌, length}
use Rattle.cdf_unit_prefix.specs.Layout.{Layout}
use Rattle.cdf_unit_table.specs.Ids.{known, action_allowed}
use Rattle.cdf_unit_table.specs.States.{opens, nothing, admit, complete}
use Rattle.cdf_unit_table.proofs.Bools.{clash}
use Rattle.cdf_unit_data.specs.Data.{own_data}
use Rattle.std.specs.Prelude.{Ok}
use Rattle.cdf_grammar.specs.Trees.{Forest, none, tree, ids}
use Rattle.cdf_grammar.specs.Published.{production_of}
use Rattle.cdf_grammar.specs.Encoding.{encode, own_length}

-- The state of a unit in `state` after children of these ids; 0 once one is not admitted.
unfoldable pub through : ℕ → List ℕ → ℕ
through state [] = state
through state (id ∷ cs) = through (admit state id) cs

-- Once a child is not admitted, none is.
pub through_none : (cs : List ℕ) → through 0 cs ≡ 0
unfolding through admit
through_none [] = refl
through_none (c ∷ cs) = through_none cs

-- A complete unit is in a state.
pub complete_some : (state : ℕ) → complete state ≡ true → state ≡ 0 → ⊥
unfolding complete
complete_some state e z = let f : false ≡ true = rw z at e in clash cc

-- How many bytes of a unit's own data are its name or fixed numbers.
abbrev pub own_of : ℕ → List ℕ → ℕ
own_of id text = own_length (production_of id).text text

pub record Passes (l : Layout) (id action : ℕ) (text : List ℕ) (inner : Forest) : Type 0 where
  pub recognised : known id ≡ true
  pub allowed : action_allowed id action ≡ true
  pub taken : own_data id (text ++ encode l inner) ≡ Ok (own_of id text)
  pub exact : opens id ≡ true → own_of id text ≡ length text
  pub full : opens id ≡ true → complete (through (nothing id) (ids inner)) ≡ true
  pub leaf : opens id ≡ false → inner ≡ none

abbrev pub Fits : Layout → Forest → Type 0
Fits l none = record {}
Fits l (tree id action text inner rest) = Passes l id action text inner × Fits l inner × Fits l rest
