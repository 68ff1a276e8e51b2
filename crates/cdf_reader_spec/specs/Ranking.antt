-- Depth and rank at a place (02, g): of the last unit, and of the next one, which is a matter of the place and not of the bytes.
use Rattle.std.specs.Prelude.{ℕ, suc, Bool, true, cond, List, [], ◌∷◌, eqb, length}
use Rattle.cdf_unit_table.specs.States.{complete}
use Rattle.cdf_unit_list.specs.declared.Open.{Open}
use Rattle.cdf_unit_list.specs.declared.Ranked.{Ranked}
use Rattle.cdf_reader_spec.specs.Place.{ReaderPlace}
use Rattle.cdf_reader_spec.specs.Closing.{closes}

-- The innermost of these units starts here. With no open unit the next is the root, which is first.
unfoldable pub innermost_at : List Open → ℕ → Bool
innermost_at [] at = true
innermost_at (o ∷ os) at = eqb o.start at

-- The rank of a unit that stands at the position: one above that of the outermost unit that closes there; where none does, the one given.
unfoldable pub rank_after : List Open → List ℕ → ℕ → ℕ → ℕ
unfolding complete
rank_after [] ks pos rank = rank
rank_after (o ∷ os) [] pos rank = rank
rank_after (o ∷ os) (k ∷ ks) pos rank = cond (closes pos o) (rank_after os ks pos (suc k)) rank

-- Where the next unit will rank, a function of the place alone: after those that close, the next of the outermost one's siblings; else
-- the first in the last unit, if that is the innermost open one, by start; else the next of the last one's siblings.
unfoldable pub next_rank : ReaderPlace → ℕ
unfolding rank_after innermost_at
next_rank p =
    rank_after p.units p.ranks p.position (cond (innermost_at p.units p.last.start) 0 (suc p.last_rank))

-- How deep the last unit stands: it is the innermost open one, by start, or it stands in that one.
unfoldable pub depth_at : ReaderPlace → ℕ
unfolding innermost_at
depth_at p = cond (innermost_at p.units p.last.start) (length p.units) (suc (length p.units))

-- The last unit as it is handed out.
unfoldable pub handed_at : ReaderPlace → Ranked
unfolding depth_at
handed_at p = record { unit = p.last; depth = depth_at p; rank = p.last_rank }
