-- The unit list of a stream, from the bytes alone (01, "Check and reader": "The unit list of demand 3"). The units listed
-- so far stand in the list `us`, the last one first.
use Rattle.std.specs.Prelude.{ℕ, zero, suc, ◌+◌, ◌-◌, Bool, true, false, cond, ◌&&◌, List, [], ◌∷◌, reverse, length, take, drop, ltb, eqb}
use Rattle.cdf_unit_prefix.specs.Layout.{Layout}
use Rattle.cdf_unit_table.specs.States.{opens, nothing, admit, complete}
use Rattle.cdf_unit_judge.specs.Judge.{judge_of, judge_in, Judged, Fault, Found}
use Rattle.cdf_unit_list.specs.declared.Unit.{Unit}

-- Where the next unit may stand: behind the own data of one that admits others, and behind the whole of any other.
unfoldable pub after : Unit → ℕ
unfolding opens
after u = cond (opens u.id) u.own u.end

-- Of the listed units, those that admit others, if they pass the test.
unfoldable pub parents_that : (Unit → Bool) → List Unit → List Unit
unfolding opens
parents_that f [] = []
parents_that f (u ∷ us) = cond (opens u.id && f u) (u ∷ parents_that f us) (parents_that f us)

-- Those that end later are open.
unfoldable pub open_at : ℕ → List Unit → List Unit
unfolding parents_that
open_at pos us = parents_that (λ u. ltb pos u.end) us

-- Those that end at the position close.
unfoldable pub closing_at : ℕ → List Unit → List Unit
unfolding parents_that
closing_at pos us = parents_that (λ u. eqb u.end pos) us

unfoldable pub first_starts : ℕ → List Unit → Bool
first_starts at [] = false
first_starts at (u ∷ us) = eqb u.start at

-- The ids of the listed units directly inside the unit that starts at `at`: it is the innermost that is open where they start.
unfoldable pub inside : ℕ → List Unit → List ℕ
unfolding open_at first_starts
inside at [] = []
inside at (v ∷ us) = cond (first_starts at (open_at v.start us)) (v.id ∷ inside at us) (inside at us)

-- The state of a unit of this id after children of these ids, the last one first.
unfoldable pub state_from : ℕ → List ℕ → ℕ
unfolding admit
state_from id [] = nothing id
state_from id (c ∷ cs) = admit (state_from id cs) c

-- The state of a listed unit: what it has had are the listed units directly inside it.
unfoldable pub state_of : List Unit → Unit → ℕ
unfolding state_from inside
state_of us u = state_from u.id (inside u.start us)

-- What follows the units listed so far: nothing more, the fault (its number and offset), or one more unit.
pub data Next : Type 0 where
  whole : Next
  broken : ℕ → ℕ → Next
  listed : Unit → Next

unfoldable pub unit_at : ℕ → Judged → Next
unit_at pos (Fault n k) = broken n (pos + k)
unit_at pos (Found id action k len state) =
    listed (record { id = id; action = action; start = pos; own = pos + k; end = pos + len })

-- Units close from the innermost outwards; one that lacks something stops that with 10, at its start.
unfoldable pub closed : List Unit → List Unit → Next
unfolding state_of complete
closed us [] = whole
closed us (u ∷ cs) = cond (complete (state_of us u)) (closed us cs) (broken 10 u.start)

-- No open unit: nothing is missing from the list. Otherwise rules 3 to 9 are asked of what the innermost open one has left.
unfoldable pub within : Layout → List ℕ → List Unit → ℕ → List Unit → Next
unfolding unit_at judge_in state_of
within l s us pos [] = whole
within l s us pos (o ∷ os) = unit_at pos (judge_of l false (state_of us o) (take (o.end - pos) (drop pos s)))

unfoldable pub or_else : Next → Next → Next
or_else whole n = n
or_else (broken k at) n = broken k at
or_else (listed u) n = listed u

unfoldable pub next_at : Layout → List ℕ → List Unit → ℕ → Next
unfolding or_else closed closing_at within open_at
next_at l s us pos = or_else (closed us (closing_at pos us)) (within l s us pos (open_at pos us))

-- `first` is how the unit at position 0 was judged.
unfoldable pub next : Layout → List ℕ → Judged → List Unit → Next
unfolding unit_at next_at after
next l s first [] = unit_at 0 first
next l s first (u ∷ us) = next_at l s (u ∷ us) (after u)

-- The list and how it ends. `unfinished`, out of fuel, is an end that no bytes reach.
pub data End : Type 0 where
  unfinished : End
  ended : End
  fault : ℕ → ℕ → End

pub record Listing : Type 0 where
  pub units : List Unit
  pub end : End

unfoldable pub go_on : (List Unit → Listing) → List Unit → Next → Listing
go_on more us whole = record { units = reverse us; end = ended }
go_on more us (broken k at) = record { units = reverse us; end = fault k at }
go_on more us (listed u) = more (u ∷ us)

unfoldable pub list_from : ℕ → Layout → List ℕ → Judged → List Unit → Listing
unfolding go_on next
list_from zero l s first us = record { units = reverse us; end = unfinished }
list_from (suc f) l s first us = go_on (list_from f l s first) us (next l s first us)

unfoldable pub list_by : Layout → List ℕ → Judged → Listing
unfolding list_from
list_by l s first = list_from (suc (length s)) l s first []

-- The unit list of a stream: position 0 gets the root's rules.
unfoldable pub listing : Layout → List ℕ → Listing
unfolding list_by judge_in
listing l s = list_by l s (judge_of l true 0 s)

-- The same one level down: of the unit at the front of s, which is what the enclosing unit, in `state`, has left.
unfoldable pub listing_in : Layout → ℕ → List ℕ → Listing
unfolding list_by judge_in
listing_in l state s = list_by l s (judge_of l false state s)

-- How deep units stand: one deeper than the units that are open where they start. `us` are the units before, the last one
-- first.
unfoldable pub depths : List Unit → List Unit → List ℕ
unfolding open_at
depths us [] = []
depths us (v ∷ vs) = suc (length (open_at v.start us)) ∷ depths (v ∷ us) vs
