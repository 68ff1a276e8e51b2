-- What a pass keeps of templates, for private contracts: no claim and no contract that is open to callers cites it.
use Rattle.std.specs.Prelude.{ℕ, ◌+◌, ◌≤◌, ◌≡◌, cond, Option, Some, None, List, [], ◌∷◌, map, ◌⊎◌, eqb, length, take, ⊤}
use Rattle.std.proofs.lemmas.List.Edits.{sets}
use Rattle.cdf_unit_table.specs.Ids.{template, temporary_key, entity_key}
use Rattle.cdf_unit_prefix.specs.Layout.{Layout, prefix_of}
use Rattle.cdf_unit_list.specs.declared.Unit.{Unit}
use Rattle.cdf_unit_list.specs.declared.Ranked.{Ranked}
use Rattle.cdf_resolve_spec.specs.Resolve.{most_templates, ranks_of, resolved_of}
use Rattle.cdf_resolve_spec.specs.Pass.{alike_at, Pass, held_for, tell_of, met_of, told_by}
use Rattle.cdf_resolve_spec.specs.declared.Tally.{Tally}
use Rattle.cdf_resolve_spec.specs.declared.Worst.TheVariants.{Fine}
use Rattle.cdf_resolve.specs.declared.Template.{Template}

-- A unit's prefix and name, and the number behind them, lie in n bytes.
pub record Within (l : Layout) (n start own : ℕ) : Type 0 where
  pub name : start + prefix_of l ≤ own
  pub number : own + prefix_of l + 4 ≤ n

-- What each of these templates says lies in n bytes.
abbrev pub Lies : Layout → ℕ → List Template → Type 0
Lies l n [] = ⊤
Lies l n (t ∷ ts) = Within l n t.start t.own × Lies l n ts

-- The rank of the first of them that is alike.
unfoldable pub rank_in : Layout → List ℕ → Unit → List Template → Option ℕ
rank_in l s u [] = None
rank_in l s u (t ∷ ts) = cond (alike_at l s u t.start t.own) (Some t.rank) (rank_in l s u ts)

-- There are 256 entries, the first of them used, as many as the tally says, and the count is one of units of n bytes.
pub record Ready (l : Layout) (n : ℕ) (t : Tally) (held : List Template) : Type 0 where
  pub few : t.templates ≤ most_templates
  pub count : t.count ≤ n
  pub lies : Lies l n (take t.templates held)
  pub full : length held ≡ most_templates

-- What is held of a template.
abbrev pub template_of : Ranked → Template
template_of r = record { start = r.unit.start; own = r.unit.own; rank = r.rank }

-- The tally and the entries are those of a pass.
pub record Keeps (l : Layout) (n : ℕ) (p : Pass) (t : Tally) (held : List Template) : Type 0 where
  pub few : length p.seen ≤ most_templates
  pub templates : t.templates ≡ length p.seen
  pub count : t.count ≡ length p.ranks
  pub worst : t.worst ≡ p.worst
  pub lies : Lies l n (take t.templates held)
  pub full : length held ≡ most_templates
  pub seen : take t.templates held ≡ map template_of p.seen

-- If they are before, they are those of what comes of it.
abbrev pub Held : Layout → List ℕ → (Pass → Pass) → Tally → List Template → Tally → List Template → Type 0
Held l s turn t held r held' = (p : Pass) → Keeps l (length s) p t held → Keeps l (length s) (turn p) r held'

-- What has been told stands at the front of the list, as far as there is room.
abbrev pub Written : List ℕ → Pass → List ℕ → Type 0
Written before p list = list ≡ sets before 0 p.ranks

abbrev pub Tells : Layout → List ℕ → Ranked → Tally → List Template → List ℕ → Tally → List ℕ → Type 0
Tells l s o t held list r list' =
    (before : List ℕ) (p : Pass) → Keeps l (length s) p t held → Written before p list →
    Keeps l (length s) (tell_of p o (held_for l s p.seen o.unit)) r held
    × Written before (tell_of p o (held_for l s p.seen o.unit)) list'

-- What a unit says whose key comes next lies in n bytes.
abbrev pub OwnerLies : Layout → ℕ → ℕ → Unit → Type 0
OwnerLies l n id u = id ≡ temporary_key → (u.id ≡ template) ⊎ (u.id ≡ entity_key) → Within l n u.start u.own

abbrev pub Meets : Layout → List ℕ → Ranked → ℕ → Tally → List Template → List ℕ → Tally → List Template → List ℕ → Type 0
Meets l s o id t held list r held' list' =
    (before : List ℕ) (p : Pass) → Keeps l (length s) p t held → Written before p list →
    Keeps l (length s) (cond (eqb id temporary_key) (met_of l s p o) p) r held'
    × Written before (cond (eqb id temporary_key) (met_of l s p o) p) list'

-- What a pass over all units leaves: the answer, for a list with any room, and, if nothing is refused, the ranks as far as there is room.
pub record Passed (l : Layout) (s before : List ℕ) (r : Tally) (after : List ℕ) : Type 0 where
  pub answer : (room : ℕ) → resolved_of l s room ≡ told_by r.worst r.count room
  pub ranks : r.worst ≡ Fine → after ≡ sets before 0 (ranks_of l s)
