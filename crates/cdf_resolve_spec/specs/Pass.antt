-- The same by one pass over the units: what the pass below promises. No claim and no open promise cites this file.
use Rattle.std.specs.Prelude.{ℕ, ◌+◌, Bool, cond, ◌&&◌, List, [], ◌∷◌, ◌++◌, eqb, ltb, length}
use Rattle.std.proofs.Math.Option.{Option, none, some}
use Rattle.cdf_unit_table.specs.Ids.{template, temporary_key, entity_key}
use Rattle.cdf_unit_prefix.specs.Layout.{Layout, prefix_of}
use Rattle.cdf_unit_list.specs.declared.Unit.{Unit}
use Rattle.cdf_unit_list.specs.declared.Ranked.{Ranked}
use Rattle.cdf_lookup_spec.specs.Find.{cut, name_of, same_bytes}
use Rattle.cdf_resolve_spec.specs.Resolve.{most_templates, Resolved, rank_that, is_there, refusal, counted}
use Rattle.cdf_resolve_spec.specs.declared.Worst.{Worst}
use Rattle.cdf_resolve_spec.specs.declared.Worst.TheVariants.{Fine, Lacking, Doubled, Crowded}

-- Four bytes, one prefix behind the end of a unit's own data: there stands the number of its temporary key.
abbrev pub number_at : Layout → List ℕ → ℕ → List ℕ
number_at l s own = cut (own + prefix_of l) (own + prefix_of l + 4) s

abbrev pub number_of : Layout → List ℕ → Unit → List ℕ
number_of l s u = number_at l s u.own

-- The number and the name of what starts there, and whose name ends there, are those of u.
unfoldable pub alike_at : Layout → List ℕ → Unit → ℕ → ℕ → Bool
unfolding same_bytes
alike_at l s u start own =
    same_bytes (number_at l s own) (number_of l s u) && same_bytes (cut (start + prefix_of l) own s) (name_of l s u)

abbrev pub alike : Layout → List ℕ → Unit → Unit → Bool
alike l s u t = alike_at l s u t.start t.own

-- How far a pass has come: the templates it holds, the ranks it has told, and the gravest of what it met.
pub record Pass : Type 0 where
  pub seen : List Ranked
  pub ranks : List ℕ
  pub worst : Worst

abbrev pub nothing_met : Pass
nothing_met = record { seen = []; ranks = []; worst = Fine }

-- One more is met: of the same kind the first is kept, of two kinds the graver.
unfoldable pub doubled_at : Worst → ℕ → Worst
doubled_at Fine at = Doubled at
doubled_at (Lacking x) at = Doubled at
doubled_at (Doubled x) at = Doubled x
doubled_at Crowded at = Crowded

unfoldable pub lacking_at : Worst → ℕ → Worst
lacking_at Fine at = Lacking at
lacking_at (Lacking x) at = Lacking x
lacking_at (Doubled x) at = Doubled x
lacking_at Crowded at = Crowded

-- The first template held that has the number and the name of u.
unfoldable pub held_for : Layout → List ℕ → List Ranked → Unit → Option ℕ
unfolding alike_at rank_that
held_for l s seen u = rank_that (alike l s u) seen

-- A template is held, if there is room.
unfoldable pub add_of : Layout → List ℕ → Pass → Ranked → Pass
unfolding held_for is_there doubled_at
add_of l s p o =
    cond (ltb (length p.seen) most_templates)
    (record {
      seen = p.seen ++ (o ∷ []);
      ranks = p.ranks;
      worst = cond (is_there (held_for l s p.seen o.unit)) (doubled_at p.worst o.unit.start) p.worst;
    })
    (record { seen = p.seen; ranks = p.ranks; worst = Crowded })

-- The rank that was found for an entity key is told, if one was.
unfoldable pub tell_of : Pass → Ranked → Option ℕ → Pass
unfolding lacking_at
tell_of p o none = record { seen = p.seen; ranks = p.ranks; worst = lacking_at p.worst o.unit.start }
tell_of p o (some rank) = record { seen = p.seen; ranks = p.ranks ++ (rank ∷ []); worst = p.worst }

-- A unit whose first key is a temporary one.
unfoldable pub met_of : Layout → List ℕ → Pass → Ranked → Pass
unfolding add_of tell_of held_for
met_of l s p o =
    cond (eqb o.unit.id template) (add_of l s p o)
    (cond (eqb o.unit.id entity_key) (tell_of p o (held_for l s p.seen o.unit)) p)

-- One more unit, with the one before it: behind a unit stands its first key.
pub record Walk : Type 0 where
  pub last : Ranked
  pub pass : Pass

abbrev pub walk_at : Ranked → Pass → Walk
walk_at last pass = record { last = last; pass = pass }

unfoldable pub step_of : Layout → List ℕ → Walk → Ranked → Walk
unfolding met_of
step_of l s w r = walk_at r (cond (eqb r.unit.id temporary_key) (met_of l s w.pass w.last) w.pass)

-- What is answered once all units are met, by the gravest and by how many ranks were told.
unfoldable pub told_by : Worst → ℕ → ℕ → Resolved
told_by Fine count room = counted count room
told_by (Lacking x) count room = refusal 20 x
told_by (Doubled x) count room = refusal 19 x
told_by Crowded count room = refusal 18 0
