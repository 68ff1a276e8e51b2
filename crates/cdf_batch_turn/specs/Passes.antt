-- The two passes of the code over a list: the first decides, the second writes. Neither asks whether the place fits, and the second judges
-- nothing; that they come to `batch_of` all the same is proved (proofs/Twice), and no claim cites what stands here.
use Rattle.std.specs.Prelude.{ℕ, suc, ◌+◌, ◌-◌, ◌%◌, Bool, true, false, cond, not, ◌&&◌, List, [], ◌∷◌, length, take, drop, ltb, eqb, Result, Ok, Err}
use Rattle.cdf_refusal.specs.Numbers.{number_of}
use Rattle.cdf_refusal.specs.declared.Refusal.{Refusal}
use Rattle.cdf_unit_table.specs.Ids.{known, action_allowed}
use Rattle.cdf_unit_prefix.specs.Layout.{Layout, layout_of, prefix_of}
use Rattle.cdf_unit_prefix.specs.declared.Edition.TheVariants.{First}
use Rattle.cdf_grammar.specs.Encoding.{unit_bytes}
use Rattle.cdf_builder_spec.specs.Place.{BuilderPlace, fits}
use Rattle.cdf_builder_spec.specs.Requests.{join_number, grown}
use Rattle.cdf_builder_spec.specs.Calls.{room, write_of}
use Rattle.cdf_builder_faults.specs.Parts.{own_fault}
use Rattle.cdf_batch_spec.specs.declared.UnitRequest.{UnitRequest}
use Rattle.cdf_batch_spec.specs.Asking.{bounded, asked}
use Rattle.cdf_batch_turn.specs.declared.PlaceNumbers.{PlaceNumbers}
use Rattle.cdf_batch_turn.specs.declared.Batched.{Batched}
use Rattle.cdf_batch_turn.specs.declared.Pass.{Pass}
use Rattle.cdf_batch_turn.specs.declared.Pass.TheVariants.{Judging, Writing}
use Rattle.cdf_batch_turn.specs.declared.Refused.{Refused}
use Rattle.cdf_batch_turn.specs.declared.Ran.{Ran}
use Rattle.cdf_batch_turn.specs.Numbers.{viewed}

-- Where a pass stands: whether it writes, the number of the first request that was refused with its rank, the place and the buffer.
pub record Going : Type 0 where
  pub writing : Bool
  pub number : ℕ
  pub rank : ℕ
  pub place : BuilderPlace
  pub buffer : List ℕ

abbrev pub writes : Pass → Bool
writes Judging = false
writes Writing = true

-- As a struct of numbers holds it, but for the place, which is its view; and the buffer.
abbrev pub going_of : Ran → List ℕ → Going
going_of q s = record { writing = q.writing; number = q.number; rank = q.rank; place = viewed q.place; buffer = s }

-- Where none was refused,
abbrev pub going : Bool → BuilderPlace → List ℕ → Going
going w p s = record { writing = w; number = 0; rank = 0; place = p; buffer = s }

-- and where the request of this rank was.
abbrev pub stopped : Bool → BuilderPlace → Refusal → ℕ → List ℕ → Going
stopped w p r k s = record { writing = w; number = number_of r; rank = k; place = p; buffer = s }

-- After a request of this rank at a place.
abbrev pub turned : Bool → BuilderPlace → ℕ → Result PlaceNumbers Refusal → List ℕ → Going
turned w p k (Ok q) s = going w (viewed q) s
turned w p k (Err r) s = stopped w p r k s

-- A number that is not 0, or what is asked next.
abbrev pub or_else : ℕ → ℕ → ℕ
or_else k next = cond (eqb k 0) next k

-- The part of the text that a request names.
abbrev pub part : List ℕ → UnitRequest → List ℕ
part text r = take (r.end - r.begin) (drop r.begin text)

-- What the judging pass asks of the own data and the room.
abbrev pub judging : Layout → ℕ → ℕ → UnitRequest → List ℕ → ℕ
judging l n written r own = or_else (own_fault r.id r.action own) (room l n (written + (prefix_of l + length own)))

-- What is asked of a request with good bounds. A pass that writes asks only what keeps it in bounds.
abbrev pub within : Layout → Bool → ℕ → ℕ → UnitRequest → List ℕ → ℕ
within l writing n written r own = cond (ltb l.limit written) 13 (cond writing 0 (judging l n written r own))

-- What is asked of a request behind where it joins.
unfoldable pub fault_of : Layout → Bool → ℕ → ℕ → List ℕ → UnitRequest → ℕ
unfolding action_allowed own_fault room
fault_of l writing n written text r =
    cond (not (bounded text r)) (cond (action_allowed r.id r.action) 9 8) (within l writing n written r (part text r))

-- More units would be open than there are slots.
abbrev pub crowded : Layout → List ℕ → BuilderPlace → UnitRequest → Bool
crowded l text p r = ltb 4 (length (grown l p (asked text r)).units)

-- The number of a request in a pass.
unfoldable pub pass_number : Layout → Bool → ℕ → List ℕ → BuilderPlace → UnitRequest → ℕ
unfolding known join_number fault_of grown
pass_number l writing n text p r =
    cond (not (known r.id)) 6
    (or_else (join_number p.units r.id 0) (or_else (fault_of l writing n p.written text r) (cond (crowded l text p r) 2 0)))

-- What the pass that writes puts where the writing stands, and then the lengths of the units that are open.
abbrev pub put : Layout → List ℕ → Going → UnitRequest → List ℕ
put l text g r =
    write_of l g.place.written (grown l g.place (asked text r)) (unit_bytes l (r.id % 256) (r.action % 256) (part text r) []) g.buffer

-- After a request of this number: it is told with the rank, or the place has grown.
abbrev pub settled : Layout → List ℕ → Going → ℕ → UnitRequest → ℕ → Going
settled l text g rank r number = record {
  writing = g.writing;
  number = number;
  rank = cond (eqb number 0) 0 rank;
  place = cond (eqb number 0) (grown l g.place (asked text r)) g.place;
  buffer = cond (g.writing && eqb number 0) (put l text g r) g.buffer;
}

unfoldable pub turn_of : Layout → List ℕ → Going → ℕ → UnitRequest → Going
unfolding pass_number grown write_of unit_bytes
turn_of l text g rank r =
    cond (eqb g.number 0) (settled l text g rank r (pass_number l g.writing (length g.buffer) text g.place r)) g

-- A pass over the list; k is the first one's rank.
unfoldable pub pass_of : Layout → List ℕ → Going → ℕ → List UnitRequest → Going
unfolding turn_of
pass_of l text g k [] = g
pass_of l text g k (r ∷ rs) = pass_of l text (turn_of l text g k r) (suc k) rs

abbrev pub begun_number : PlaceNumbers → ℕ → ℕ → ℕ
begun_number p n count = cond (not (fits (layout_of First) n (viewed p))) 2 (cond (ltb 512 count) 21 0)

-- What a pass that began at a place answers, and what the code does: beside a refusal the place is the one given.
abbrev pub from_place : BuilderPlace → Going → Going
from_place p g = record { writing = g.writing; number = g.number; rank = g.rank; place = cond (eqb g.number 0) g.place p; buffer = g.buffer }

abbrev pub passed : Bool → BuilderPlace → Result PlaceNumbers Refused → List ℕ → Going
passed w p (Ok q) s = going w (viewed q) s
passed w p (Err e) s = stopped w p e.refusal e.rank s

abbrev pub batched_of : PlaceNumbers → Result PlaceNumbers Refused → Batched
batched_of p (Ok q) = record { number = 0; rank = 0; place = q }
batched_of p (Err e) = record { number = number_of e.refusal; rank = e.rank; place = p }

-- By the struct of numbers: between the passes, and what is told behind the second.
abbrev pub second_of : PlaceNumbers → Ran → Ran
second_of p q = cond (eqb q.number 0) (record { writing = true; number = 0; rank = 0; place = p }) q

abbrev pub told_of : PlaceNumbers → Ran → Batched
told_of p q = record { number = q.number; rank = q.rank; place = cond (eqb q.number 0) q.place p }
