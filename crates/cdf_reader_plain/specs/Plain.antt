-- The plain reader (01, "Check and reader"): it has the unit list, with depth and rank of each unit, and sees of the world only the calls. It knows no place.
use Rattle.std.specs.Prelude.{ℕ, ◌-◌, Bool, true, false, cond, ◌&&◌, List, [], ◌∷◌, leb}
use Rattle.cdf_unit_table.specs.States.{opens}
use Rattle.cdf_unit_list.specs.declared.Unit.{Unit}
use Rattle.cdf_unit_list.specs.declared.Ranked.{Ranked}
use Rattle.cdf_reader_spec.specs.Calls.{Part, is_group}
use Rattle.cdf_reader_spec.specs.declared.Call.{Call}
use Rattle.cdf_reader_spec.specs.declared.Call.TheVariants.{Start, Next, Skip, GetStream, Previous}
use Rattle.cdf_reader_plain.specs.Calls.{Told, handing, taking, saying}

-- Its state: a listed unit, those listed after it, and whether it is fresh, neither skipped nor taken.
pub record State : Type 0 where
  pub unit : Ranked
  pub later : List Ranked
  pub fresh : Bool

abbrev pub fresh_at : Ranked → List Ranked → State
fresh_at u us = record { unit = u; later = us; fresh = true }

abbrev pub passed_by : State → State
passed_by st = record { unit = st.unit; later = st.later; fresh = false }

-- What it tells of a call, and its state after it.
pub record Turn : Type 0 where
  pub told : Told
  pub state : State

abbrev pub turn : Told → State → Turn
turn told state = record { told = told; state = state }

-- The listed units from the first on that starts at a position or after it.
unfoldable pub starting_at : ℕ → List Ranked → List Ranked
starting_at at [] = []
starting_at at (u ∷ us) = cond (leb at u.unit.start) (u ∷ us) (starting_at at us)

-- A fresh unit is followed by the next in the list, any other by what the list has from its end on.
unfoldable pub followers : List Ranked → State → List Ranked
unfolding starting_at
followers all st = cond st.fresh st.later (starting_at st.unit.unit.end all)

-- The first of these is handed out and is the state, fresh. Where there is none, 1, and the state stays.
unfoldable pub hand_out : State → List Ranked → Turn
hand_out st [] = turn (saying 1) st
hand_out st (u ∷ us) = turn (handing u) (fresh_at u us)

-- The bytes of a unit.
abbrev pub span_of : Unit → Part
span_of u = record { start = u.start; size = u.end - u.start }

-- What comes of a call. The unit list is its first unit and the rest.
unfoldable pub plain_answer : Ranked → List Ranked → State → Call → Turn
unfolding hand_out followers opens
plain_answer first rest st Start = turn (handing first) (fresh_at first rest)
plain_answer first rest st Next = hand_out st (followers (first ∷ rest) st)
plain_answer first rest st Skip =
    cond (st.fresh && opens st.unit.unit.id) (turn (saying 0) (passed_by st)) (turn (saying 11) st)
plain_answer first rest st GetStream =
    cond (st.fresh && is_group st.unit.unit.id) (turn (taking (span_of st.unit.unit)) (passed_by st)) (turn (saying 11) st)
plain_answer first rest st Previous = turn (handing st.unit) st
