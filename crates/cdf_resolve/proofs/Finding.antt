-- What is found among the templates that are held is what the pass holds.
use Rattle.std.specs.Prelude.{ℕ, ◌≡◌, Bool, true, false, cond, Option, Some, None, List, [], ◌∷◌, map, refl}
use mathlib.Core.Option as maybe
use Rattle.cdf_unit_prefix.specs.Layout.{Layout}
use Rattle.cdf_unit_list.specs.declared.Unit.{Unit}
use Rattle.cdf_unit_list.specs.declared.Ranked.{Ranked}
use Rattle.cdf_resolve_spec.specs.Resolve.{rank_that}
use Rattle.cdf_resolve_spec.specs.Pass.{alike, held_for}
use Rattle.cdf_resolve.specs.Holding.{template_of, rank_in}

-- The library's word for what is found.
abbrev pub lent : maybe.Option ℕ → Option ℕ
lent maybe.none = None
lent (maybe.some rank) = Some rank

lent_cond : (b : Bool) (rank : ℕ) (m : maybe.Option ℕ) → cond b (Some rank) (lent m) ≡ lent (cond b (maybe.some rank) m)
lent_cond true rank m = refl
lent_cond false rank m = refl

pub rank_held : (l : Layout) (s : List ℕ) (u : Unit) (seen : List Ranked) → rank_in l s u (map template_of seen) ≡ lent (held_for l s seen u)
unfolding rank_in held_for rank_that
rank_held l s u [] = refl
rank_held l s u (r ∷ seen) = rw (rank_held l s u seen) (lent_cond (alike l s u r.unit) r.rank (rank_that (alike l s u) seen))
