-- The rules 3 to 9 for the unit at the front of s, which is all that the enclosing unit has left (01, "The numbers given
-- back"). Positions are added by whoever asks, so a unit is judged the same wherever it stands.
use Rattle.std.specs.Prelude.{ℕ, ◌+◌, ◌-◌, Bool, cond, not, List, take, drop, eqb, Ok, Err}
use Rattle.cdf_unit_prefix.specs.Layout.{Layout, prefix_of}
use Rattle.cdf_unit_prefix.specs.Rules.{Head, Stop, Prefix, head_of}
use Rattle.cdf_unit_table.specs.Ids.{action_allowed}
use Rattle.cdf_unit_table.specs.States.{admits}
use Rattle.cdf_unit_data.specs.Data.{Own, NameBytes, name_bytes, own_data_by}

-- Rules 8 and 9: the action is not allowed; this byte of the own data is the first that breaks its rule; or the name or the fixed numbers
-- take so many bytes.
pub data Body : Type 0 where
  Action : Body
  Data : ℕ → Body
  Whole : ℕ → Body

-- Rules 3 to 9: a fault's number, and its offset from the unit's start; or the unit: id, action, where its own data end, length, and the
-- state of the enclosing unit once it has had this one, or for a root its own.
pub data Judged : Type 0 where
  Fault : ℕ → ℕ → Judged
  Found : ℕ → ℕ → ℕ → ℕ → ℕ → Judged

unfoldable pub data_body : Own → Body
data_body (Ok k) = Whole k
data_body (Err k) = Data k

-- 8: the action is not allowed for this id. 9: the own data breaks its rule, by the bytes that may stand in a name.
unfoldable pub body_by : NameBytes → ℕ → ℕ → List ℕ → Body
unfolding action_allowed data_body own_data_by
body_by w id action s = cond (not (action_allowed id action)) Action (data_body (own_data_by w id s))

-- 9 alone is told at the byte that offends (02, b); every other rule at the unit's start.
unfoldable pub found_by : Layout → ℕ → ℕ → ℕ → ℕ → Body → Judged
found_by l id action len next Action = Fault 8 0
found_by l id action len next (Data k) = Fault 9 (prefix_of l + k)
found_by l id action len next (Whole k) = Found id action (prefix_of l + k) len next

-- 7: not admitted here, between the two. `admitted` tells the state of the enclosing unit after a child of an id, or 0.
unfoldable pub judge_head : NameBytes → Layout → (ℕ → ℕ) → List ℕ → Head → Judged
unfolding found_by body_by
judge_head w l admitted s (Stop n) = Fault n 0
judge_head w l admitted s (Prefix id action len) =
    cond (eqb (admitted id) 0) (Fault 7 0)
    (found_by l id action len (admitted id) (body_by w id action (take (len - prefix_of l) (drop (prefix_of l) s))))

unfoldable pub judge_by : NameBytes → Layout → Bool → (ℕ → ℕ) → List ℕ → Judged
unfolding judge_head head_of
judge_by w l root admitted s = judge_head w l admitted s (head_of l root s)

-- The root of a stream (`true`), or a unit nested in one that is in `state`.
unfoldable pub judge_in : NameBytes → Layout → Bool → ℕ → List ℕ → Judged
unfolding judge_by admits
judge_in w l root state s = judge_by w l root (admits root state) s

-- With 01's name bytes.
abbrev pub body_of : ℕ → ℕ → List ℕ → Body
body_of = body_by name_bytes

abbrev pub judge_of : Layout → Bool → ℕ → List ℕ → Judged
judge_of = judge_in name_bytes
