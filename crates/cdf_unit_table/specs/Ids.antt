-- The units (01, "One unit"): their ids, and for each the actions and the own data. What a unit admits stands in `States`.
use Rattle.std.specs.Prelude.{ℕ, Bool, false, ◌&&◌, ◌||◌, List, [], ◌∷◌, get_or, leb, ltb, eqb}

unfoldable pub member : ℕ → List ℕ → Bool
member x [] = false
member x (y ∷ ys) = eqb x y || member x ys

-- The ids.
abbrev pub stream : ℕ
stream = 1

abbrev pub call : ℕ
call = 2

abbrev pub parameter : ℕ
parameter = 3

abbrev pub er_group : ℕ
er_group = 4

abbrev pub template : ℕ
template = 5

abbrev pub temporary_key : ℕ
temporary_key = 6

abbrev pub template_key : ℕ
template_key = 7

abbrev pub field : ℕ
field = 8

abbrev pub relation : ℕ
relation = 9

abbrev pub ordered_relation : ℕ
ordered_relation = 10

abbrev pub entity_key : ℕ
entity_key = 11

abbrev pub relation_key : ℕ
relation_key = 12

abbrev pub file_group : ℕ
file_group = 13

abbrev pub line : ℕ
line = 14

-- One more than the last id.
abbrev pub ids_end : ℕ
ids_end = 15

unfoldable pub known : ℕ → Bool
known id = leb 1 id && ltb id ids_end

-- What a unit's own data is: nothing, a name, a name and a value, a value, or so many bytes of numbers.
pub data Rule : Type 0 where
  blank : Rule
  name : Rule
  name_value : Rule
  value : Rule
  numbers : ℕ → Rule

pub record Kind : Type 0 where
  pub actions : List ℕ
  pub rule : Rule

abbrev kind : List ℕ → Rule → Kind
kind acts r = record { actions = acts; rule = r }

-- The actions: none is 0, create 1, read 2, update 3 and delete 4.
abbrev pub no_action : List ℕ
no_action = 0 ∷ []

abbrev pub any_action : List ℕ
any_action = 1 ∷ 2 ∷ 3 ∷ 4 ∷ []

-- The columns "actions" and "own data".
abbrev pub kinds : List Kind
kinds =
    -- id 0 is no unit's
    kind [] blank
    -- EDMM stream
    ∷ kind no_action blank
    -- function call
    ∷ kind no_action name
    -- parameter
    ∷ kind no_action name_value
    -- E/R data group
    ∷ kind no_action blank
    -- template
    ∷ kind any_action name
    -- temporary key
    ∷ kind no_action (numbers 4)
    -- template key
    ∷ kind no_action value
    -- field
    ∷ kind any_action name_value
    -- relation: create, read, delete
    ∷ kind (1 ∷ 2 ∷ 4 ∷ []) (numbers 4)
    -- ordered relation: create, update
    ∷ kind (1 ∷ 3 ∷ []) (numbers 8)
    -- entity key
    ∷ kind no_action name
    -- relation key
    ∷ kind no_action (numbers 4)
    -- file data group
    ∷ kind no_action blank
    -- line
    ∷ kind no_action value
    ∷ []

unfoldable pub kind_of : ℕ → Kind
kind_of id = get_or kinds id (kind [] blank)

unfoldable pub action_allowed : ℕ → ℕ → Bool
unfolding kind_of member
action_allowed id action = member action (kind_of id).actions
