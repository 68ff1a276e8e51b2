-- What the tool tells of any bytes (02, a), from the unit list alone. The listed units stand in `us`, the last one first.
use Rattle.std.specs.Prelude.{ℕ, not, cond, List, [], ◌∷◌, ◌++◌, reverse, eqb}
use Rattle.cdf_unit_table.specs.Ids.{ids_end}
use Rattle.cdf_unit_table.specs.States.{admit, root_kind, complete}
use Rattle.cdf_unit_table.specs.Tables.{those}
use Rattle.cdf_unit_prefix.specs.Layout.{Layout}
use Rattle.cdf_unit_list.specs.Units.{after, open_at, closing_at, state_of, End, unfinished, ended, fault, Listing, listing}
use Rattle.cdf_unit_list.specs.declared.Unit.{Unit}

-- The number and the offset, the units that are open where the refused unit stands, the root first, and the ids, rising, that
-- the innermost of them admits there.
pub record Why : Type 0 where
  pub number : ℕ
  pub offset : ℕ
  pub units : List Unit
  pub ids : List ℕ

-- An accepted stream: nothing is wrong, and nothing is listed.
abbrev pub nothing_wrong : Why
nothing_wrong = record { number = 0; offset = 0; units = []; ids = [] }

-- Of the units that end at a position, the innermost first: complete ones are closed, up to one that is not. That one is open,
-- and so are all around it.
unfoldable pub kept_open : List Unit → List Unit → List Unit
unfolding state_of complete
kept_open us [] = []
kept_open us (u ∷ cs) = cond (complete (state_of us u)) (kept_open us cs) (u ∷ cs)

-- The units that are open where the next one would stand, the innermost first: those and the ones that end later.
unfoldable pub open_around : List Unit → List Unit
unfolding kept_open closing_at open_at after
open_around [] = []
open_around (u ∷ us) = kept_open (u ∷ us) (closing_at (after u) (u ∷ us)) ++ open_at (after u) (u ∷ us)

-- The ids that the innermost of them admits, by what it has had; where none is open, those of a root.
unfoldable pub admitted_by : List Unit → List Unit → List ℕ
unfolding those state_of admit root_kind
admitted_by us [] = those root_kind ids_end
admitted_by us (o ∷ os) = those (λ id. not (eqb (admit (state_of us o) id) 0)) ids_end

-- A fault's own number and offset. `unfinished`, which no bytes reach, has the check's number for it.
unfoldable pub why_after : List Unit → End → Why
unfolding open_around admitted_by
why_after us unfinished = record { number = 99; offset = 0; units = []; ids = [] }
why_after us ended = nothing_wrong
why_after us (fault n at) =
    record { number = n; offset = at; units = reverse (open_around us); ids = admitted_by us (open_around us) }

unfoldable pub why_of : Layout → List ℕ → Why
unfolding why_after listing
why_of l s = let r : Listing = listing l s in why_after (reverse r.units) r.end
