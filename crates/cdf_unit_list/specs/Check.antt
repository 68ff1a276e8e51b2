-- The check's answer: 0 with a count of the listed units, or the fault's number and offset (01, "Check and reader").
use Rattle.std.specs.Prelude.{ℕ, List, length}
use Rattle.cdf_unit_prefix.specs.Layout.{Layout}
use Rattle.cdf_unit_list.specs.Units.{End, unfinished, ended, fault, Listing, listing, listing_in}

pub record Verdict : Type 0 where
  pub number : ℕ
  pub value : ℕ

-- `unfinished` is given a number that 01 does not have; no bytes reach it.
unfoldable pub answer_of : ℕ → End → Verdict
answer_of count unfinished = record { number = 99; value = 0 }
answer_of count ended = record { number = 0; value = count }
answer_of count (fault n at) = record { number = n; value = at }

unfoldable pub answer : Listing → Verdict
unfolding answer_of
answer r = answer_of (length r.units) r.end

unfoldable pub check_of : Layout → List ℕ → Verdict
unfolding answer listing
check_of l s = answer (listing l s)

-- The same one level down: of the unit at the front of what the enclosing unit, in `state`, has left.
unfoldable pub check_in : Layout → ℕ → List ℕ → Verdict
unfolding answer listing_in
check_in l state s = answer (listing_in l state s)
