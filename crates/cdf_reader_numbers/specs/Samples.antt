-- A place and an answer, number by number.
use Rattle.std.specs.Prelude.{ℕ, true, List, [], ◌∷◌}
use Rattle.cdf_unit_list.specs.declared.Unit.{Unit}
use Rattle.cdf_unit_list.specs.declared.Open.{Open}
use Rattle.cdf_reader_spec.specs.Place.{ReaderPlace}
use Rattle.cdf_reader_spec.specs.Calls.{Reply, Part}

-- No two are the same, so that none can stand for another.
abbrev pub given : List ℕ
given =
    90 ∷ 4 ∷ 11 ∷ 12 ∷ 13 ∷ 21 ∷ 22 ∷ 23 ∷ 31 ∷ 32 ∷ 33 ∷ 41 ∷ 42 ∷ 43
    ∷ 51 ∷ 52 ∷ 53 ∷ 54 ∷ 55 ∷ 1 ∷ 61 ∷ 62 ∷ 63 ∷ 64 ∷ 65 ∷ []

abbrev in_state : ℕ → ℕ → ℕ → Open
in_state state from end = record { state = state; start = from; end = end }

abbrev unit : Unit
unit = record { id = 51; action = 52; start = 53; own = 54; end = 55 }

-- Four units are open: the innermost, and behind it those around it, the root last, as far as the numbers go from the root inwards.
abbrev pub place_due : ReaderPlace
place_due = record {
  position = 90;
  units = in_state 11 12 13 ∷ in_state 41 42 43 ∷ in_state 31 32 33 ∷ in_state 21 22 23 ∷ [];
  last = unit;
  fresh = true;
  ranks = 61 ∷ 64 ∷ 63 ∷ 62 ∷ [];
  last_rank = 65;
}

abbrev pub answer : Reply
answer = record { number = 0; offset = 71; handed = record { unit = unit; depth = 72; rank = 73 }; place = place_due }

abbrev pub part : Part
part = record { start = 74; size = 75 }

abbrev pub answer_due : List ℕ
answer_due = 71 ∷ 51 ∷ 52 ∷ 53 ∷ 54 ∷ 55 ∷ 74 ∷ 75 ∷ 72 ∷ 73 ∷ []
