-- The same by one pass over the units: what the search below the lookup promises. No claim and no promise of the lookup cites this file.
use Rattle.std.specs.Prelude.{ℕ, cond, ltb, None, List}
use mathlib.Core.List.{foldl}
use Rattle.cdf_unit_table.specs.Ids.{template, field}
use Rattle.cdf_unit_prefix.specs.Layout.{Layout}
use Rattle.cdf_unit_list.specs.Units.{listing}
use Rattle.cdf_unit_list.specs.declared.Unit.{Unit}
use Rattle.cdf_lookup_spec.specs.Find.{Query, Value, at_span, reads, named, is_that_key}
use Rattle.cdf_lookup_spec.specs.declared.Search.{Search}
use Rattle.cdf_lookup_spec.specs.declared.Search.TheVariants.{Seeking, Named, Inside, Over}

-- One more unit. Behind a template that has the name stands its first key.
unfoldable pub advance_of : Layout → List ℕ → Query → Search → Unit → Search
unfolding reads
advance_of l s q Seeking u = cond (named l s template q.template u) (Named u.end) Seeking
advance_of l s q (Named end) u = cond (is_that_key l s q.key_id q.key u) (Inside end) Seeking
advance_of l s q (Inside end) u =
    cond (ltb u.start end) (cond (named l s field q.field u) (Over (at_span u.own u.end)) (Inside end)) (Over None)
advance_of l s q (Over value) u = Over value

-- What the search has found once there is no further unit.
abbrev pub outcome_of : Search → Value
outcome_of Seeking = None
outcome_of (Named end) = None
outcome_of (Inside end) = None
outcome_of (Over value) = value

unfoldable pub search_of : Layout → List ℕ → Query → Value
unfolding advance_of listing
search_of l s q = outcome_of (foldl (advance_of l s q) Seeking (listing l s).units)
