-- What the builder is asked for, where it joins, and the rules that ask nothing of the room (01, "Builder").
use Rattle.std.specs.Prelude.{ℕ, ◌+◌, Bool, true, false, cond, not, ◌&&◌, ◌||◌, List, [], ◌∷◌, ◌++◌, length, eqb, Ok, Err}
use Rattle.cdf_unit_table.specs.Ids.{known, action_allowed}
use Rattle.cdf_unit_table.specs.States.{opens, nothing, admit, complete}
use Rattle.cdf_unit_prefix.specs.Layout.{Layout, id_at}
use Rattle.cdf_unit_data.specs.Data.{own_data, own_data_by, Own}
use Rattle.cdf_unit_list.specs.Check.{check_of}
use Rattle.cdf_grammar.specs.Encoding.{unit_bytes, Item}
use Rattle.cdf_reader_spec.specs.Calls.{is_group}
use Rattle.cdf_builder_spec.specs.Place.{BuilderPlace}
use Rattle.cdf_builder_spec.specs.declared.Begun.{Begun}

-- One unit (NEXT), or the bytes of a whole group (ADD_STREAM).
pub data Request : Type 0 where
  unit : Item → Request
  group : List ℕ → Request

-- The id that is to be admitted: of a group, its root's.
unfoldable pub id_of : Layout → Request → ℕ
unfolding id_at
id_of l (unit u) = u.id
id_of l (group g) = id_at l g

-- The bytes that are added: a unit's prefix and own data, or the group as it is.
unfoldable pub bytes_for : Layout → Request → List ℕ
unfolding unit_bytes
bytes_for l (unit u) = unit_bytes l u.id u.action u.text []
bytes_for l (group g) = g

-- Where a new unit joins: of the open units the innermost one that admits the id, with those around it. None where none admits it.
unfoldable pub joining : ℕ → List Begun → List Begun
unfolding admit
joining id [] = []
joining id (o ∷ os) = cond (eqb (admit o.state id) 0) (joining id os) (o ∷ os)

-- The open units inside that one, which have to be complete.
unfoldable pub ending : ℕ → List Begun → List Begun
unfolding admit
ending id [] = []
ending id (o ∷ os) = cond (eqb (admit o.state id) 0) (o ∷ ending id os) []

unfoldable pub completed : List Begun → Bool
unfolding complete
completed [] = true
completed (o ∷ os) = complete o.state && completed os

-- 7: no open unit admits the id. 10: one does, but a unit inside it is incomplete. Else what is asked next.
unfoldable pub join_number : List Begun → ℕ → ℕ → ℕ
unfolding joining ending completed
join_number os id next = cond (eqb (length (joining id os)) 0) 7 (cond (not (completed (ending id os))) 10 next)

-- The own data is right and there is no more of it: a unit that admits others holds only its name or its numbers so far.
unfoldable pub whole_data : ℕ → List ℕ → Own → Bool
unfolding opens
whole_data id text (Ok k) = not (opens id) || eqb k (length text)
whole_data id text (Err k) = false

unfoldable pub right_data : ℕ → List ℕ → Bool
unfolding whole_data own_data_by
right_data id text = whole_data id text (own_data id text)

-- The check accepts these bytes, and their root is a group.
unfoldable pub accepted_group : Layout → List ℕ → Bool
unfolding check_of id_at
accepted_group l g = eqb (check_of l g).number 0 && is_group (id_at l g)

-- NEXT: 6, 7, 10, 8 and 9 in this order. ADD_STREAM: 14, 7 and 10. Else what is asked next.
unfoldable pub refused : Layout → List Begun → Request → ℕ → ℕ
unfolding known join_number action_allowed right_data accepted_group
refused l os (unit u) next =
    cond (not (known u.id)) 6
    (join_number os u.id (cond (not (action_allowed u.id u.action)) 8 (cond (not (right_data u.id u.text)) 9 next)))
refused l os (group g) next = cond (not (accepted_group l g)) 14 (join_number os (id_at l g) next)

-- The unit that admits the id has then had it.
unfoldable pub advanced : ℕ → List Begun → List Begun
unfolding admit
advanced id [] = []
advanced id (o ∷ os) = record { state = admit o.state id; start = o.start } ∷ os

-- A unit that admits others is open from then on; a group is closed.
unfoldable pub entering : ℕ → Request → List Begun
unfolding opens nothing
entering at (unit u) = cond (opens u.id) (record { state = nothing u.id; start = at } ∷ []) []
entering at (group g) = []

unfoldable pub grown : Layout → BuilderPlace → Request → BuilderPlace
unfolding bytes_for id_of joining advanced entering
grown l p r = record {
  written = p.written + length (bytes_for l r);
  units = entering p.written r ++ advanced (id_of l r) (joining (id_of l r) p.units);
}
