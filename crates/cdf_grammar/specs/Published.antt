-- The published grammar (source document 001) in the table of 01, "One unit": for each unit its actions, its own data and its
-- content model, under the source's names. It shares no definition with the rows by which units are checked.
use Rattle.std.specs.Prelude.{ℕ, suc, ◌≤◌, ◌≡◌, ◌⊎◌, List, [], ◌∷◌, ◌++◌, length, get_or}
use Rattle.cdf_grammar.specs.Content.{Content, empty, one, both, either, many, some, Spells}
use Rattle.cdf_grammar.specs.Trees.{Forest, none, tree, ids}

-- <fun_parm>, <tmpl_key>, <field>, <line> and the like are units; their ids are 01's.
abbrev edmm_data_stream : Content
edmm_data_stream = one 1

abbrev function_call : Content
function_call = one 2

abbrev fun_parm : Content
fun_parm = one 3

abbrev er_data_group : Content
er_data_group = one 4

abbrev template : Content
template = one 5

-- <tmpl_key> has two forms: one with the id of a temporary key, and one with that of a template key
abbrev temporary_tmpl_key : Content
temporary_tmpl_key = one 6

abbrev lasting_tmpl_key : Content
lasting_tmpl_key = one 7

-- <tmpl_key_list>, as 02, c mends it: one temporary key, or one or more template keys
abbrev pub tmpl_key_list : Content
tmpl_key_list = either temporary_tmpl_key (some lasting_tmpl_key)

abbrev field : Content
field = one 8

-- <rel>: a relation or an ordered relation
abbrev rel : Content
rel = either (one 9) (one 10)

-- <source_key> and <target_key>: an entity key (<relent_key>) or a relation key (<relrel_key>)
abbrev source_key : Content
source_key = either (one 11) (one 12)

abbrev target_key : Content
target_key = either (one 11) (one 12)

abbrev file_data_group : Content
file_data_group = one 13

abbrev line : Content
line = one 14

-- <cdf_data_stream> ::= <edmm_data_stream> | <er_data_group> | <file_data_group>
abbrev pub cdf_data_stream : Content
cdf_data_stream = either edmm_data_stream (either er_data_group file_data_group)

-- <edmm_data> ::= <function_call> | <function_call> <er_data_group> | <function_call> <file_data_group>
abbrev edmm_data : Content
edmm_data = either function_call (either (both function_call er_data_group) (both function_call file_data_group))

-- <er_data> ::= <template> | <rel>
abbrev er_data : Content
er_data = either template rel

-- What the own data of a unit is: nothing, a name, a name and a value, a value, or so many bytes of numbers.
pub data Text : Type 0 where
  no_text : Text
  name_text : Text
  name_and_value : Text
  value_text : Text
  number_text : ℕ → Text

-- Every one of these numbers has the property.
abbrev pub Each : (ℕ → Type 0) → List ℕ → Type 0
Each P [] = record {}
Each P (b ∷ s) = P b × Each P s

-- A to Z
abbrev pub Letter : ℕ → Type 0
Letter b = (65 ≤ b) × (b ≤ 90)

-- A to Z, 0 to 9 or underscore
abbrev pub NameByte : ℕ → Type 0
NameByte b = Letter b ⊎ (((48 ≤ b) × (b ≤ 57)) ⊎ (b ≡ 95))

-- A count of 1 to 32, then so many bytes that may stand in a name, the first a letter.
pub record Name (s : List ℕ) : Type 0 where
  pub first : ℕ
  pub others : List ℕ
  pub spelled : s ≡ suc (length others) ∷ first ∷ others
  pub short : suc (length others) ≤ 32
  pub begins : Letter first
  pub goes_on : Each NameByte others

-- 0 to 4,096 bytes of any kind.
abbrev pub Value : List ℕ → Type 0
Value s = length s ≤ 4096

abbrev pub TextIs : Text → List ℕ → Type 0
TextIs no_text s = s ≡ []
TextIs name_text s = Name s
TextIs name_and_value s = (front : List ℕ) × (rest : List ℕ) × (s ≡ front ++ rest) × Name front × Value rest
TextIs value_text s = Value s
TextIs (number_text n) s = length s ≡ n

-- <no_action>, <crud_action>, <crd_action>, <cu_action>
abbrev no_action : List ℕ
no_action = 0 ∷ []

abbrev crud_action : List ℕ
crud_action = 1 ∷ 2 ∷ 3 ∷ 4 ∷ []

abbrev crd_action : List ℕ
crd_action = 1 ∷ 2 ∷ 4 ∷ []

abbrev cu_action : List ℕ
cu_action = 1 ∷ 3 ∷ []

pub record Production : Type 0 where
  pub actions : List ℕ
  pub text : Text
  pub content : Content

abbrev production : List ℕ → Text → Content → Production
production acts text content = record { actions = acts; text = text; content = content }

-- The productions, in the order of the ids, from 0, which is no unit's.
abbrev pub productions : List Production
productions =
    production [] no_text empty
    -- <edmm_data_stream>: <edmm_data_list>
    ∷ production no_action no_text (some edmm_data)
    -- <function_call>: fun_name <fun_parm_list>
    ∷ production no_action name_text (many fun_parm)
    -- <fun_parm>: fun_parm_name fun_parm_value
    ∷ production no_action name_and_value empty
    -- <er_data_group>: <er_data_list>
    ∷ production no_action no_text (some er_data)
    -- <template>: template_name <tmpl_key_list> <field_list>
    ∷ production crud_action name_text (both tmpl_key_list (many field))
    -- <tmpl_key>: <temp_key>
    ∷ production no_action (number_text 4) empty
    -- <tmpl_key>: key_value
    ∷ production no_action value_text empty
    -- <field>: field_name field_value
    ∷ production crud_action name_and_value empty
    -- <rel>: <rel_key> <source_key> <target_key>
    ∷ production crd_action (number_text 4) (both source_key target_key)
    -- <rel>, ordered: <rel_key> <rel_posn> <source_key> <target_key>
    ∷ production cu_action (number_text 8) (both source_key target_key)
    -- <relent_key>: template_name <tmpl_key_list>
    ∷ production no_action name_text tmpl_key_list
    -- <relrel_key>: rel_key
    ∷ production no_action (number_text 4) empty
    -- <file_data_group>: <file_data_list>
    ∷ production no_action no_text (some line)
    -- <line>: line_value
    ∷ production no_action value_text empty
    ∷ []

unfoldable pub production_of : ℕ → Production
production_of id = get_or productions id (production [] no_text empty)

-- It is one of these.
abbrev pub Among : ℕ → List ℕ → Type 0
Among x [] = ⊥
Among x (y ∷ ys) = (x ≡ y) ⊎ Among x ys

-- A unit with these trees nested in it follows its production.
pub record Follows (id action : ℕ) (text : List ℕ) (inner : Forest) : Type 0 where
  pub acts : Among action (production_of id).actions
  pub says : TextIs (production_of id).text text
  pub holds : Spells (production_of id).content (ids inner)

-- Every unit does.
abbrev pub Conforms : Forest → Type 0
Conforms none = record {}
Conforms (tree id action text inner rest) = Follows id action text inner × Conforms inner × Conforms rest

-- The tree is one of the published grammar: its root is one of a stream's, and every unit follows its production.
pub record InGrammar (t : Forest) : Type 0 where
  pub root : Spells cdf_data_stream (ids t)
  pub conforms : Conforms t
