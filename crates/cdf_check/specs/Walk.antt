-- The recursive check as a function, for the private contracts of `check_unit`, `check_inside` and `check_front`: no claim and no
-- contract that is open to callers cites it, and nobody has to believe it. A unit is judged here in one piece; in the code the
-- loop asks its prefix and admission, and `check_unit` the rest (proofs/Walked).
use Rattle.std.specs.Prelude.{ℕ, zero, suc, ◌+◌, ◌≤◌, ◌<◌, false, cond, List, length, take, drop, ltb}
use Rattle.cdf_unit_prefix.specs.Layout.{Layout, prefix_of}
use Rattle.cdf_unit_table.specs.States.{opens, nothing, complete}
use Rattle.cdf_unit_table.specs.Heights.{height, height_in}
use Rattle.cdf_unit_judge.specs.Judge.{body_of, judge_of, body_by, Body, Action, Data, Whole, Judged, Fault, Found}
use Rattle.cdf_check.specs.Answers.{Checked, Accepted, Refused}

-- What is known of a unit that is to be checked, behind count units and `place` bytes: it is low enough, has a prefix, and sums stay
-- numbers that a field can hold.
abbrev pub UnitKnown : Layout → ℕ → List ℕ → ℕ → ℕ → ℕ → Type 0
UnitKnown l levels s id place count =
    (height id < levels) × (place + length s < 9223372036854775808) × (prefix_of l ≤ length s) × (count ≤ place)

-- The same of what it holds, from body on.
abbrev pub InsideKnown : ℕ → List ℕ → ℕ → ℕ → ℕ → ℕ → Type 0
InsideKnown levels s first base body count =
    (height_in first < levels) × (base + length s < 9223372036854775808) × (body ≤ length s) × (count ≤ base + body)

-- The check of what a nested unit holds: of its bytes, its first state, its offset, where what it holds begins, and the units
-- up to there.
abbrev pub Nested : Type 0
Nested = List ℕ → ℕ → ℕ → ℕ → ℕ → Checked

-- At a unit's end: 10, at its start, if it lacks something.
abbrev pub finish : ℕ → ℕ → ℕ → Checked
finish base state n = cond (complete state) (Accepted n) (Refused 10 base)

-- After a nested unit.
unfoldable pub and_then : (ℕ → Checked) → Checked → Checked
and_then more (Accepted n) = more n
and_then more (Refused k at) = Refused k at

-- The unit at the front of s, at a position, with n units before it; `more` goes on after it, with the enclosing
-- unit's new state, the unit's length and the units so far.
unfoldable pub turn : Nested → (ℕ → ℕ → ℕ → Checked) → ℕ → ℕ → List ℕ → Judged → Checked
turn nested more pos n s (Fault k at) = Refused k (pos + at)
turn nested more pos n s (Found id action own len state) =
    and_then (more state len) (cond (opens id) (nested (take len s) (nothing id) pos own (n + 1)) (Accepted (n + 1)))

-- From the place `at` of the unit s on, which starts at base and is in `state`. Each place takes one of the fuel, so that
-- out of it s is at its end.
unfoldable pub walk : Layout → Nested → ℕ → List ℕ → ℕ → ℕ → ℕ → ℕ → Checked
walk l nested zero s base state at n = finish base state n
walk l nested (suc fuel) s base state at n =
    cond (ltb at (length s))
    (turn nested (λ next len m. walk l nested fuel s base next (at + len) m) (base + at) n (drop at s)
    (judge_of l false state (drop at s)))
    (finish base state n)

-- So many levels of units may lie inside. No bytes reach the answer at no level.
unfoldable pub inside_of : Layout → ℕ → Nested
inside_of l zero s state base body n = Refused 99 base
inside_of l (suc levels) s state base body n = walk l (inside_of l levels) (length s) s base state body n

-- The unit s, at a position and with n units before it, whose action and own data were found so.
unfoldable pub unit_by : Layout → Nested → List ℕ → ℕ → ℕ → ℕ → Body → Checked
unit_by l nested s id pos n Action = Refused 8 pos
unit_by l nested s id pos n (Data k) = Refused 9 (pos + prefix_of l + k)
unit_by l nested s id pos n (Whole k) =
    cond (opens id) (nested s (nothing id) pos (prefix_of l + k) (n + 1)) (Accepted (n + 1))

unfoldable pub checked_unit : Layout → ℕ → List ℕ → ℕ → ℕ → ℕ → ℕ → Checked
unfolding unit_by body_by
checked_unit l levels s id action pos n = unit_by l (inside_of l levels) s id pos n (body_of id action (drop (prefix_of l) s))

-- The unit at the front of s, which was judged so.
unfoldable pub front : Layout → List ℕ → Judged → Checked
front l s judged = turn (inside_of l 5) (λ next len n. Accepted n) 0 0 s judged
