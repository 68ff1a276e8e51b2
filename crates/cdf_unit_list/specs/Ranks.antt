-- Depth and rank of the listed units (02, g), from the unit list alone. `us` are the units listed before, the last one first.
use Rattle.std.specs.Prelude.{ℕ, suc, List, [], ◌∷◌, map, length}
use Rattle.cdf_unit_prefix.specs.Layout.{Layout}
use Rattle.cdf_unit_list.specs.Units.{open_at, inside, listing}
use Rattle.cdf_unit_list.specs.declared.Unit.{Unit}
use Rattle.cdf_unit_list.specs.declared.Ranked.{Ranked}

-- How many of `us` stand directly in the innermost open unit, the head of the second list; with none open 0, the root's rank.
unfoldable pub rank_in : List Unit → List Unit → ℕ
unfolding inside
rank_in us [] = 0
rank_in us (o ∷ os) = length (inside o.start us)

-- One deeper than the units that are open where it starts, and ranked by those directly in the innermost of these.
unfoldable pub standing : List Unit → Unit → Ranked
unfolding open_at rank_in
standing us v =
    record { unit = v; depth = suc (length (open_at v.start us)); rank = rank_in us (open_at v.start us) }

unfoldable pub ranked : List Unit → List Unit → List Ranked
unfolding standing
ranked us [] = []
ranked us (v ∷ vs) = standing us v ∷ ranked (v ∷ us) vs

-- The unit list of demand 3, with both.
unfoldable pub ranked_units : Layout → List ℕ → List Ranked
unfolding ranked listing
ranked_units l s = ranked [] (listing l s).units

-- These alone, in the same order: where the units of a stream stand.
unfoldable pub stands_in : Layout → List ℕ → List (ℕ × ℕ)
unfolding ranked_units
stands_in l s = map (λ r. (r.depth, r.rank)) (ranked_units l s)
