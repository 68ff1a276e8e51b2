-- The column "admits" of 01's table ("One unit"). A state is one number that tells a unit that admits others and what it has
-- had; the states of a unit stand together, from the one in which it has had nothing to the one in which it was skipped.
use Rattle.std.specs.Prelude.{ℕ, Bool, true, false, not, ◌&&◌, ◌||◌, cond, List, [], ◌∷◌, leb, eqb, zero, suc, Option, Some, None}
use Rattle.cdf_unit_table.specs.Ids.{member, stream, call, parameter, er_group, template, temporary_key, template_key, field}
use Rattle.cdf_unit_table.specs.Ids.{relation, ordered_relation, entity_key, relation_key, file_group, line}

-- of an EDMM stream: nothing, last a call, last a group, skipped
abbrev pub stream_new : ℕ
stream_new = 1

abbrev pub stream_call : ℕ
stream_call = 2

abbrev pub stream_group : ℕ
stream_group = 3

abbrev pub stream_skipped : ℕ
stream_skipped = 4

-- of an E/R data group: nothing, some data, skipped
abbrev pub er_new : ℕ
er_new = 5

abbrev pub er_data : ℕ
er_data = 6

abbrev pub er_skipped : ℕ
er_skipped = 7

-- of a file data group: nothing, lines, skipped
abbrev pub file_new : ℕ
file_new = 8

abbrev pub file_lines : ℕ
file_lines = 9

abbrev pub file_skipped : ℕ
file_skipped = 10

-- of a function call: nothing, parameters, skipped
abbrev pub call_new : ℕ
call_new = 11

abbrev pub call_parameters : ℕ
call_parameters = 12

abbrev pub call_skipped : ℕ
call_skipped = 13

-- of a template: nothing, its temporary key alone, template keys alone, what it has for keys and then fields, skipped (02, c)
abbrev pub template_new : ℕ
template_new = 14

abbrev pub template_temporary : ℕ
template_temporary = 15

abbrev pub template_keys : ℕ
template_keys = 16

abbrev pub template_fields : ℕ
template_fields = 17

abbrev pub template_skipped : ℕ
template_skipped = 18

-- of a relation: nothing, a source, a source and a target, skipped
abbrev pub relation_new : ℕ
relation_new = 19

abbrev pub relation_source : ℕ
relation_source = 20

abbrev pub relation_target : ℕ
relation_target = 21

abbrev pub relation_skipped : ℕ
relation_skipped = 22

-- of an ordered relation, as of a relation
abbrev pub ordered_new : ℕ
ordered_new = 23

abbrev pub ordered_source : ℕ
ordered_source = 24

abbrev pub ordered_target : ℕ
ordered_target = 25

abbrev pub ordered_skipped : ℕ
ordered_skipped = 26

-- of an entity key: nothing, its temporary key, template keys, skipped (02, c)
abbrev pub entity_new : ℕ
entity_new = 27

abbrev pub entity_temporary : ℕ
entity_temporary = 28

abbrev pub entity_keys : ℕ
entity_keys = 29

abbrev pub entity_skipped : ℕ
entity_skipped = 30

-- One more than the last state.
abbrev pub states_end : ℕ
states_end = 31

-- The units that admit others: the first and the last of their states.
pub record Parent : Type 0 where
  pub id : ℕ
  pub first : ℕ
  pub last : ℕ

abbrev parent : ℕ → ℕ → ℕ → Parent
parent id first last = record { id = id; first = first; last = last }

abbrev pub parents : List Parent
parents =
    parent stream stream_new stream_skipped
    ∷ parent er_group er_new er_skipped
    ∷ parent file_group file_new file_skipped
    ∷ parent call call_new call_skipped
    ∷ parent template template_new template_skipped
    ∷ parent relation relation_new relation_skipped
    ∷ parent ordered_relation ordered_new ordered_skipped
    ∷ parent entity_key entity_new entity_skipped
    ∷ []

-- Of the first of these that passes a test, or 0 where none does.
unfoldable pub pick : (Parent → Bool) → (Parent → ℕ) → List Parent → ℕ
pick test of [] = 0
pick test of (p ∷ ps) = cond (test p) (of p) (pick test of ps)

abbrev has : ℕ → Parent → Bool
has state p = leb p.first state && leb state p.last

-- The id of the unit that a state is of; 0 for a number that is no state.
unfoldable pub unit_of : ℕ → ℕ
unfolding pick
unit_of state = pick (has state) (λ p. p.id) parents

-- The state of a unit of this id that has had nothing; 0 where it admits no others.
unfoldable pub nothing : ℕ → ℕ
unfolding pick
nothing id = pick (λ p. eqb p.id id) (λ p. p.first) parents

-- The state of the same unit in which it was skipped.
unfoldable pub skipped : ℕ → ℕ
unfolding pick
skipped state = pick (has state) (λ p. p.last) parents

-- It is one that admits others.
unfoldable pub opens : ℕ → Bool
unfolding nothing
opens id = not (eqb (nothing id) 0)

-- In `state` a unit admits `child`, and is then in `next`.
pub record Row : Type 0 where
  pub state : ℕ
  pub child : ℕ
  pub next : ℕ

abbrev row : ℕ → ℕ → ℕ → Row
row s c n = record { state = s; child = c; next = n }

abbrev pub rows : List Row
rows =
    row stream_new call stream_call
    ∷ row stream_call call stream_call
    ∷ row stream_call er_group stream_group
    ∷ row stream_call file_group stream_group
    ∷ row stream_group call stream_call
    ∷ row call_new parameter call_parameters
    ∷ row call_parameters parameter call_parameters
    ∷ row er_new template er_data
    ∷ row er_new relation er_data
    ∷ row er_new ordered_relation er_data
    ∷ row er_data template er_data
    ∷ row er_data relation er_data
    ∷ row er_data ordered_relation er_data
    ∷ row template_new temporary_key template_temporary
    ∷ row template_new template_key template_keys
    ∷ row template_keys template_key template_keys
    ∷ row template_temporary field template_fields
    ∷ row template_keys field template_fields
    ∷ row template_fields field template_fields
    ∷ row relation_new entity_key relation_source
    ∷ row relation_new relation_key relation_source
    ∷ row relation_source entity_key relation_target
    ∷ row relation_source relation_key relation_target
    ∷ row ordered_new entity_key ordered_source
    ∷ row ordered_new relation_key ordered_source
    ∷ row ordered_source entity_key ordered_target
    ∷ row ordered_source relation_key ordered_target
    ∷ row entity_new temporary_key entity_temporary
    ∷ row entity_new template_key entity_keys
    ∷ row entity_keys template_key entity_keys
    ∷ row file_new line file_lines
    ∷ row file_lines line file_lines
    ∷ []

-- The state once the child is admitted; 0, which is no state, where it is not.
unfoldable pub admit_from : List Row → ℕ → ℕ → ℕ
admit_from [] s c = 0
admit_from (r ∷ rs) s c = cond (eqb r.state s && eqb r.child c) r.next (admit_from rs s c)

unfoldable pub admit : ℕ → ℕ → ℕ
unfolding admit_from
admit state child = admit_from rows state child

-- The kinds that a stream may have as its root.
unfoldable pub root_kind : ℕ → Bool
unfolding member
root_kind id = member id (stream ∷ er_group ∷ file_group ∷ [])

-- As `admit`. A root (`true`) is admitted by its kind; nothing encloses it, so the state told is its own, with nothing had.
unfoldable pub admits : Bool → ℕ → ℕ → ℕ
unfolding root_kind admit nothing
admits true state child = cond (root_kind child) (nothing child) 0
admits false state child = admit state child

-- A row passes the test.
unfoldable pub any_row : (Row → Bool) → List Row → Bool
any_row f [] = false
any_row f (r ∷ rs) = f r || any_row f rs

-- A unit admits this kind, whatever it has had.
unfoldable pub admits_kind : ℕ → ℕ → Bool
unfolding any_row unit_of
admits_kind unit child = any_row (λ r. eqb (unit_of r.state) unit && eqb r.child child) rows

-- The states in which a unit is complete: a function call always, any unit that was skipped, and any other once it has had
-- what the column asks for.
abbrev pub complete_states : List ℕ
complete_states =
    stream_call
    ∷ stream_group
    ∷ stream_skipped
    ∷ er_data
    ∷ er_skipped
    ∷ file_lines
    ∷ file_skipped
    ∷ call_new
    ∷ call_parameters
    ∷ call_skipped
    ∷ template_temporary
    ∷ template_keys
    ∷ template_fields
    ∷ template_skipped
    ∷ relation_target
    ∷ relation_skipped
    ∷ ordered_target
    ∷ ordered_skipped
    ∷ entity_temporary
    ∷ entity_keys
    ∷ entity_skipped
    ∷ []

unfoldable pub complete : ℕ → Bool
unfolding member
complete state = member state complete_states

-- A state, as the code tells it; none is 0.
abbrev pub some_state : ℕ → Option ℕ
some_state zero = None
some_state (suc n) = Some (suc n)
