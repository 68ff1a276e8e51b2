-- The open units as a stack, the innermost first, and one step: what a reader keeps instead of the units listed so far.
-- `step` is what NEXT does, and it stands here for the reader's contract, so this file belongs to the trusted reading. The
-- claims are about the unit list; a law (proofs/Agreement) says that the steps give that list.
use Rattle.std.specs.Prelude.{ℕ, ◌+◌, ◌-◌, false, cond, List, [], ◌∷◌, take, drop, eqb}
use Rattle.cdf_unit_prefix.specs.Layout.{Layout}
use Rattle.cdf_unit_table.specs.States.{opens, nothing, complete}
use Rattle.cdf_unit_data.specs.Data.{NameBytes, name_bytes}
use Rattle.cdf_unit_judge.specs.Judge.{judge_in, Judged, Fault, Found}
use Rattle.cdf_unit_list.specs.Units.{after}
use Rattle.cdf_unit_list.specs.declared.Unit.{Unit}
use Rattle.cdf_unit_list.specs.declared.Open.{Open}

-- What closing the units that end at a position leaves: the start of the first incomplete one, or those still open.
pub data Closing : Type 0 where
  incomplete : ℕ → Closing
  left : List Open → Closing

unfoldable pub close : List Open → ℕ → Closing
unfolding complete
close [] pos = left []
close (o ∷ os) pos =
    cond (eqb o.end pos) (cond (complete o.state) (close os pos) (incomplete o.start)) (left (o ∷ os))

pub data Step : Type 0 where
  done : Step
  refused : ℕ → ℕ → Step
  -- a unit, the units open after it, and the next position
  found : Unit → List Open → ℕ → Step

unfoldable pub opened : Unit → List Open → List Open
unfolding opens
opened u os =
    cond (opens u.id) (record { state = nothing u.id; start = u.start; end = u.end } ∷ os) os

-- The unit that was judged at a position, given what is open for each state that the enclosing unit may then be in.
unfoldable pub entered : ℕ → (ℕ → List Open) → Judged → Step
unfolding opened after
entered pos around (Fault n k) = refused n (pos + k)
entered pos around (Found id action k len state) =
    let u : Unit = record { id = id; action = action; start = pos; own = pos + k; end = pos + len } in
    found u (opened u (around state)) (after u)

unfoldable pub with_state : Open → ℕ → Open
with_state o state = record { state = state; start = o.start; end = o.end }

-- By any judge of a nested unit, which is given the state of the unit around it and what that one has left. Units close by their lengths; what
-- may come next is the judge's matter alone.
unfoldable pub step_in_with : (ℕ → List ℕ → Judged) → List ℕ → ℕ → Closing → Step
unfolding entered with_state
step_in_with judge s pos (incomplete at) = refused 10 at
step_in_with judge s pos (left []) = done
step_in_with judge s pos (left (o ∷ os)) =
    entered pos (λ state. with_state o state ∷ os) (judge o.state (take (o.end - pos) (drop pos s)))

unfoldable pub step_with : (ℕ → List ℕ → Judged) → List ℕ → List Open → ℕ → Step
unfolding step_in_with close
step_with judge s os pos = step_in_with judge s pos (close os pos)

-- By the bytes that may stand in a name.
unfoldable pub step_in_by : NameBytes → Layout → List ℕ → ℕ → Closing → Step
unfolding step_in_with judge_in
step_in_by w l s pos closing = step_in_with (judge_in w l false) s pos closing

unfoldable pub step_by : NameBytes → Layout → List ℕ → List Open → ℕ → Step
unfolding step_in_by close
step_by w l s os pos = step_in_by w l s pos (close os pos)

-- With 01's.
abbrev pub step_in : Layout → List ℕ → ℕ → Closing → Step
step_in = step_in_by name_bytes

abbrev pub step : Layout → List ℕ → List Open → ℕ → Step
step = step_by name_bytes
