-- Trees as bytes, over the layout, and as lists of units.
use Rattle.std.specs.Prelude.{ℕ, zero, suc, ◌+◌, ◌-◌, ◌/◌, ◌%◌, ◌≤◌, ◌<◌, ◌≡◌, List, [], ◌∷◌, ◌++◌, length, take, drop, get_or}
use Rattle.cdf_unit_prefix.specs.Layout.{Layout, prefix_of}
use Rattle.cdf_unit_list.specs.Units.{after}
use Rattle.cdf_unit_list.specs.declared.Unit.{Unit}
use Rattle.cdf_grammar.specs.Trees.{Forest, none, tree}
use Rattle.cdf_grammar.specs.Published.{Text, no_text, name_text, name_and_value, value_text, number_text, Each, production_of, InGrammar}

-- A number in k bytes, high byte first.
unfoldable pub bytes_of : ℕ → ℕ → List ℕ
bytes_of zero n = []
bytes_of (suc k) n = bytes_of k (n / 256) ++ (n % 256 ∷ [])

-- The mark, the length, the action and the id.
unfoldable pub prefix_bytes : Layout → ℕ → ℕ → ℕ → List ℕ
unfolding bytes_of
prefix_bytes l len action id = 0xcd ∷ l.mark ∷ (bytes_of l.length_bytes len ++ (action ∷ id ∷ []))

-- A unit whose nested units are these bytes: the length counts the prefix, the own data and all nested units.
unfoldable pub unit_bytes : Layout → ℕ → ℕ → List ℕ → List ℕ → List ℕ
unfolding prefix_bytes
unit_bytes l id action text inner =
    prefix_bytes l (prefix_of l + (length text + length inner)) action id ++ (text ++ inner)

unfoldable pub encode : Layout → Forest → List ℕ
unfolding unit_bytes
encode l none = []
encode l (tree id action text inner rest) = unit_bytes l id action text (encode l inner) ++ encode l rest

-- How many bytes of the own data are the unit's name or fixed numbers.
unfoldable pub own_length : Text → List ℕ → ℕ
own_length no_text s = 0
own_length name_text s = suc (get_or s 0 0)
own_length name_and_value s = suc (get_or s 0 0)
own_length value_text s = 0
own_length (number_text n) s = n

-- The units of the trees that stand from a position on, each before those nested in it.
unfoldable pub list : Layout → ℕ → Forest → List Unit
unfolding own_length production_of encode
list l at none = []
list l at (tree id action text inner rest) =
    let body : ℕ = at + prefix_of l in
    let end : ℕ = body + (length text + length (encode l inner)) in
    record { id = id; action = action; start = at; own = body + own_length (production_of id).text text; end = end }
    ∷ (list l (body + length text) inner ++ list l end rest)

-- A stream is bytes: numbers below 256.
abbrev pub Bytes : List ℕ → Type 0
Bytes s = Each (λ b. b < 256) s

-- The bytes are a stream of the published grammar: this tree, within the limit, in this layout.
pub record Stream (l : Layout) (s : List ℕ) (t : Forest) : Type 0 where
  pub tree : InGrammar t
  pub within : length s ≤ l.limit
  pub bytes : encode l t ≡ s

-- What a unit says: its id, its action and its own data.
pub record Item : Type 0 where
  pub id : ℕ
  pub action : ℕ
  pub text : List ℕ

-- What the units of trees say, in order: each unit before those nested in it.
unfoldable pub says : Forest → List Item
says none = []
says (tree id action text inner rest) =
    record { id = id; action = action; text = text } ∷ (says inner ++ says rest)

-- What a listed unit of a stream says. Its own data ends where the next unit may stand.
unfoldable pub item_of : Layout → List ℕ → Unit → Item
unfolding after
item_of l s u =
    let body : ℕ = u.start + prefix_of l in
    record { id = u.id; action = u.action; text = take (after u - body) (drop body s) }
