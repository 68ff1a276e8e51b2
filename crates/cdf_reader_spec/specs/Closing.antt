-- Closing at a place: the units that end at the position close, the innermost first.
use Rattle.std.specs.Prelude.{ℕ, Bool, cond, ◌&&◌, List, [], ◌∷◌, eqb}
use Rattle.cdf_unit_table.specs.States.{complete}
use Rattle.cdf_unit_list.specs.declared.Open.{Open}
use Rattle.cdf_reader_spec.specs.Place.{ReaderPlace}

-- A complete unit that ends at the position closes.
abbrev pub closes : ℕ → Open → Bool
closes pos o = eqb o.end pos && complete o.state

-- The first that does not stays open with all around it,
unfoldable pub unclosed : List Open → ℕ → List Open
unfolding complete
unclosed [] pos = []
unclosed (o ∷ os) pos = cond (closes pos o) (unclosed os pos) (o ∷ os)

-- and they keep their ranks.
unfoldable pub unclosed_ranks : List Open → List ℕ → ℕ → List ℕ
unfolding complete
unclosed_ranks [] ks pos = []
unclosed_ranks (o ∷ os) [] pos = []
unclosed_ranks (o ∷ os) (k ∷ ks) pos = cond (closes pos o) (unclosed_ranks os ks pos) (k ∷ ks)

-- The place with these units and ranks; all else stays.
unfoldable pub closed_at : ReaderPlace → ReaderPlace
unfolding unclosed unclosed_ranks
closed_at p = record {
  position = p.position;
  units = unclosed p.units p.position;
  last = p.last;
  fresh = p.fresh;
  ranks = unclosed_ranks p.units p.ranks p.position;
  last_rank = p.last_rank;
}
