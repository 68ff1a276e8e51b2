-- The transition table (02, h): 31 rows of 14 entries in one list, a row for each state, in it an entry for each id.
use Rattle.std.specs.Prelude.{ℕ, zero, suc, ◌+◌, ◌*◌, ◌-◌, ◌/◌, ◌%◌, cond, List, [], ◌∷◌, eqb, ltb, get_or}
use Rattle.cdf_unit_table.specs.States.{admit, root_kind, nothing}

-- What is looked up in any list of numbers as the table: the entry of a state and an id; 0, 'not admitted', where there is none.
unfoldable pub looked : List ℕ → ℕ → ℕ → ℕ
looked table state id =
    cond (ltb 30 state) 0 (cond (ltb id 1) 0 (cond (ltb 14 id) 0 (get_or table (state * 14 + (id - 1)) 0)))

-- What an entry has to be: the state of the unit in whose row it stands once it has had a unit of the id, or 0. Row 0 stands before the
-- root: there it is the first state of what may be a root.
unfoldable pub entry_of : ℕ → ℕ → ℕ
unfolding admit root_kind nothing
entry_of state id = cond (eqb state 0) (cond (root_kind id) (nothing id) 0) (admit state id)

-- So many entries from the k-th on, and all of them: the table's list.
unfoldable pub entries_from : ℕ → ℕ → List ℕ
entries_from k zero = []
entries_from k (suc n) = entry_of (k / 14) (k % 14 + 1) ∷ entries_from (suc k) n

unfoldable pub entries : List ℕ
unfolding entries_from entry_of
entries = entries_from 0 434
