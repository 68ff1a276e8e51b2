-- The two readers' calls and runs, call by call. To unfold them would unfold the judge and the rows too, so these equations stand
-- for that.
use Rattle.std.proofs.Common.{ℕ, ◌≡◌, refl, Bool, cond, ◌&&◌, List, [], ◌∷◌}
use Rattle.cdf_unit_table.specs.States.{opens}
use Rattle.cdf_unit_prefix.specs.Layout.{Layout}
use Rattle.cdf_unit_list.specs.declared.Ranked.{Ranked}
use Rattle.cdf_reader_spec.specs.Place.{ReaderPlace}
use Rattle.cdf_reader_spec.specs.Calls.{Reply, Part, is_group, empty_place, first_of, next_of, skip_of, take_of, part_of, previous_of, no_part}
use Rattle.cdf_reader_spec.specs.Calls.{call_of, part_taken}
use Rattle.cdf_reader_spec.specs.declared.Call.{Call}
use Rattle.cdf_reader_spec.specs.declared.Call.TheVariants.{Start, Next, Skip, GetStream, Previous}
use Rattle.cdf_reader_plain.specs.Calls.{Told, handing, taking, saying}
use Rattle.cdf_reader_plain.specs.Plain.{State, fresh_at, passed_by, Turn, turn, followers, hand_out, span_of, plain_answer}
use Rattle.cdf_reader_plain.specs.Runs.{tells, reader_run, place_after, tells_after, plain_from, state_from, plain_run, following}

-- What is told of a reply and a part.
abbrev pub telling : Reply → Part → Told
telling r part = record { number = r.number; offset = r.offset; part = part; handed = r.handed }

-- What passes a unit where that may be done, with the part taken.
abbrev pub pass : Bool → Part → State → Turn
pass may part st = cond may (turn (taking part) (passed_by st)) (turn (saying 11) st)

-- Each call of the reader: the reply, and the part taken.
module _ (l : Layout) (s : List ℕ) (p : ReaderPlace) where
  abbrev Asks : Call → Reply → Part → Type 0
  Asks c r part = (call_of l s p c ≡ r) × (part_taken l s p c ≡ part)

  pub start_call : Asks Start (first_of l s) no_part
  unfolding call_of part_taken
  start_call = (refl, refl)

  pub next_call : Asks Next (next_of l s p) no_part
  unfolding call_of part_taken
  next_call = (refl, refl)

  pub skip_call : Asks Skip (skip_of l s p) no_part
  unfolding call_of part_taken
  skip_call = (refl, refl)

  pub take_call : Asks GetStream (take_of l s p) (part_of l s p)
  unfolding call_of part_taken
  take_call = (refl, refl)

  pub previous_call : Asks Previous (previous_of l s p) no_part
  unfolding call_of part_taken
  previous_call = (refl, refl)

-- Each call of the plain reader: its turn.
module _ (first : Ranked) (rest : List Ranked) (st : State) where
  pub start_turn : plain_answer first rest st Start ≡ turn (handing first) (fresh_at first rest)
  unfolding plain_answer
  start_turn = refl

  pub next_turn : plain_answer first rest st Next ≡ hand_out st (followers (first ∷ rest) st)
  unfolding plain_answer
  next_turn = refl

  pub skip_turn : plain_answer first rest st Skip ≡ pass (st.fresh && opens st.unit.unit.id) no_part st
  unfolding plain_answer
  skip_turn = refl

  pub take_turn : plain_answer first rest st GetStream ≡ pass (st.fresh && is_group st.unit.unit.id) (span_of st.unit.unit) st
  unfolding plain_answer
  take_turn = refl

  pub previous_turn : plain_answer first rest st Previous ≡ turn (handing st.unit) st
  unfolding plain_answer
  previous_turn = refl

-- A run of no call, and of one more.
module _ (l : Layout) (s : List ℕ) (p : ReaderPlace) where
  pub reader_none : reader_run l s p [] ≡ []
  unfolding reader_run
  reader_none = refl

  pub place_none : place_after l s p [] ≡ p
  unfolding place_after
  place_none = refl

  module _ (c : Call) (cs : List Call) where
    pub reader_on : reader_run l s p (c ∷ cs) ≡ tells l s p c ∷ reader_run l s (call_of l s p c).place cs
    unfolding reader_run
    reader_on = refl

    pub place_on : place_after l s p (c ∷ cs) ≡ place_after l s (call_of l s p c).place cs
    unfolding place_after
    place_on = refl

module _ (first : Ranked) (rest : List Ranked) where
  module _ (st : State) where
    pub plain_none : plain_from first rest st [] ≡ []
    unfolding plain_from
    plain_none = refl

    pub state_none : state_from first rest st [] ≡ st
    unfolding state_from
    state_none = refl

    module _ (c : Call) (cs : List Call) where
      pub plain_on :
          plain_from first rest st (c ∷ cs)
          ≡ (plain_answer first rest st c).told ∷ plain_from first rest (plain_answer first rest st c).state cs
      unfolding plain_from
      plain_on = refl

      pub state_on : state_from first rest st (c ∷ cs) ≡ state_from first rest (plain_answer first rest st c).state cs
      unfolding state_from
      state_on = refl

  -- It begins with a start.
  module _ (cs : List Call) where
    pub plain_is : plain_run first rest cs ≡ handing first ∷ plain_from first rest (fresh_at first rest) cs
    unfolding plain_run
    plain_is = refl

    pub following_is : following first rest cs ≡ followers (first ∷ rest) (state_from first rest (fresh_at first rest) cs)
    unfolding following
    following_is = refl

-- What the reader tells of a call after a start and some.
pub after_is : (l : Layout) (s : List ℕ) (cs : List Call) (c : Call) →
    tells_after l s cs c ≡ tells l s (place_after l s empty_place (Start ∷ cs)) c
unfolding tells_after
after_is l s cs c = refl
