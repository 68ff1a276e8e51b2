-- Runs of the two readers over a list of calls. Each call of the reader but a start is given the place that the last one returned.
use Rattle.std.specs.Prelude.{ℕ, List, [], ◌∷◌, map, take, drop, get_or}
use Rattle.cdf_unit_prefix.specs.Layout.{Layout}
use Rattle.cdf_unit_list.specs.declared.Ranked.{Ranked}
use Rattle.cdf_reader_spec.specs.Place.{ReaderPlace}
use Rattle.cdf_reader_spec.specs.Calls.{Part, empty_place, call_of, part_taken}
use Rattle.cdf_reader_spec.specs.declared.Call.{Call}
use Rattle.cdf_reader_spec.specs.declared.Call.TheVariants.{Start}
use Rattle.cdf_reader_plain.specs.Calls.{Told, handing}
use Rattle.cdf_reader_plain.specs.Plain.{State, fresh_at, followers, plain_answer}

-- What the reader tells of a call.
abbrev pub tells : Layout → List ℕ → ReaderPlace → Call → Told
tells l s p c = record {
  number = (call_of l s p c).number;
  offset = (call_of l s p c).offset;
  part = part_taken l s p c;
  handed = (call_of l s p c).handed;
}

-- The reader, from a place on: what it tells of each call, and the place after them.
unfoldable pub reader_run : Layout → List ℕ → ReaderPlace → List Call → List Told
unfolding call_of part_taken
reader_run l s p [] = []
reader_run l s p (c ∷ cs) = tells l s p c ∷ reader_run l s (call_of l s p c).place cs

unfoldable pub place_after : Layout → List ℕ → ReaderPlace → List Call → ReaderPlace
unfolding call_of
place_after l s p [] = p
place_after l s p (c ∷ cs) = place_after l s (call_of l s p c).place cs

-- What the reader tells of a call after a start and these calls.
unfoldable pub tells_after : Layout → List ℕ → List Call → Call → Told
unfolding call_of part_taken place_after
tells_after l s calls c = tells l s (place_after l s empty_place (Start ∷ calls)) c

-- The plain reader, from a state on: what it tells of each call, and the state after them.
unfoldable pub plain_from : Ranked → List Ranked → State → List Call → List Told
unfolding plain_answer
plain_from first rest st [] = []
plain_from first rest st (c ∷ cs) =
    (plain_answer first rest st c).told ∷ plain_from first rest (plain_answer first rest st c).state cs

unfoldable pub state_from : Ranked → List Ranked → State → List Call → State
unfolding plain_answer
state_from first rest st [] = st
state_from first rest st (c ∷ cs) = state_from first rest (plain_answer first rest st c).state cs

-- It begins with a start: the first unit, fresh.
unfoldable pub plain_run : Ranked → List Ranked → List Call → List Told
unfolding plain_from
plain_run first rest calls = handing first ∷ plain_from first rest (fresh_at first rest) calls

-- The units that follow after a start and these calls.
unfoldable pub following : Ranked → List Ranked → List Call → List Ranked
unfolding followers state_from
following first rest calls = followers (first ∷ rest) (state_from first rest (fresh_at first rest) calls)

-- The k-th number of a run; 0 past its end.
abbrev pub number_at : ℕ → List Told → ℕ
number_at k ts = get_or (map (λ t. t.number) ts) k 0

-- The bytes of a part.
abbrev pub bytes_in : List ℕ → Part → List ℕ
bytes_in s part = take part.size (drop part.start s)
