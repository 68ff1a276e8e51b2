-- What is claimed of what resolving answers, and of the list after it. The term of this record stands in proofs/Proved.
use Rattle.std.specs.Prelude.{ℕ, ◌≤◌, ◌<◌, ◌≡◌, List, ◌++◌, ◌⊎◌, ◌↔◌, length, drop}
use Rattle.cdf_unit_table.specs.Ids.{entity_key}
use Rattle.cdf_unit_prefix.specs.Layout.{Layout, layout_of}
use Rattle.cdf_unit_prefix.specs.declared.Edition.{Edition}
use Rattle.cdf_unit_list.specs.Units.{listing}
use Rattle.cdf_unit_list.specs.Check.{check_of}
use Rattle.cdf_unit_list.specs.declared.Unit.{Unit}
use Rattle.cdf_grammar.specs.Encoding.{Bytes}
use Rattle.cdf_grammar.specs.Claims.{Accepted}
use Rattle.cdf_lookup_spec.specs.Chosen.{First, None, Grouped}
use Rattle.cdf_resolve_spec.specs.Resolve.{refusal, resolved_of, list_after}
use Rattle.cdf_resolve_spec.specs.Words.{In, Count, HasTemporary, Unstored, Doubled, Lacking, MeansOne, Ranks}
use Rattle.cdf_resolve_spec.specs.Samples.{samples_found, samples_due}

-- The check accepts an E/R group, with at most 256 templates that have a temporary key.
abbrev pub Eligible : Layout → List ℕ → Type 0
Eligible l s = Accepted l s × Grouped l s × ((n : ℕ) × Count (Unstored l s) (listing l s).units n × (n ≤ 256))

pub record Claims : Type 0 where
  -- Groups of a few templates and relations, other roots and a fault, computed: the answer and the list after it.
  pub samples : samples_found ≡ samples_due
  -- The check comes first: if it refuses, the answer is its number and offset, whatever the list.
  pub checked : (l : Layout) (s : List ℕ) (room : ℕ) → (Accepted l s → ⊥) →
      resolved_of l s room ≡ refusal (check_of l s).number (check_of l s).value
  -- Of an accepted stream it is 7 exactly if the root is no E/R group,
  pub seven : (l : Layout) (s : List ℕ) (room : ℕ) → Accepted l s → ((resolved_of l s room).number ≡ 7) ↔ (Grouped l s → ⊥)
  -- and of an accepted E/R group 18 exactly if more than 256 templates have a temporary key.
  pub many : (l : Layout) (s : List ℕ) (room : ℕ) → Accepted l s → Grouped l s →
      (n : ℕ) × Count (Unstored l s) (listing l s).units n × (((resolved_of l s room).number ≡ 18) ↔ (256 < n))
  -- Else it is 19 exactly if a template is doubled, whatever else there is in the group;
  pub order : (l : Layout) (s : List ℕ) (room : ℕ) → Eligible l s →
      ((resolved_of l s room).number ≡ 19) ↔ ((t : Unit) × In t (listing l s).units × Doubled l s t)
  -- 20 exactly if none is, and an entity key with a temporary key has no earlier template with its name and key;
  pub then : (l : Layout) (s : List ℕ) (room : ℕ) → Eligible l s →
      ((resolved_of l s room).number ≡ 20)
      ↔ (None (Doubled l s) (listing l s).units × ((u : Unit) × In u (listing l s).units × Lacking l s u))
  -- and 0 or 12 exactly if none is doubled and each entity key with a temporary key has just one earlier template with its name and key.
  pub exactly : (e : Edition) (s : List ℕ) (room : ℕ) → Bytes s → Eligible (layout_of e) s →
      (((resolved_of (layout_of e) s room).number ≡ 0) ⊎ ((resolved_of (layout_of e) s room).number ≡ 12))
      ↔ (None (Doubled (layout_of e) s) (listing (layout_of e) s).units
      × ((u : Unit) (key : List ℕ) → In u (listing (layout_of e) s).units → HasTemporary (layout_of e) s entity_key key u → MeansOne (layout_of e) s u key))
  -- 19 carries the start of the first doubled template,
  pub doubled : (l : Layout) (s : List ℕ) (room : ℕ) → (resolved_of l s room).number ≡ 19 →
      (t : Unit) × First (Doubled l s) t (listing l s).units × ((resolved_of l s room).offset ≡ t.start)
  -- 20 that of the first entity key without a template,
  pub lacking : (l : Layout) (s : List ℕ) (room : ℕ) → (resolved_of l s room).number ≡ 20 →
      (u : Unit) × First (Lacking l s) u (listing l s).units × ((resolved_of l s room).offset ≡ u.start)
  -- and of an accepted stream any other number none.
  pub offset : (l : Layout) (s : List ℕ) (room : ℕ) → Accepted l s → ((resolved_of l s room).number ≡ 19 → ⊥) →
      ((resolved_of l s room).number ≡ 20 → ⊥) → (resolved_of l s room).offset ≡ 0
  -- With 0 the k-th number of the list is the rank of the template that the k-th such entity key means, the count is theirs, and the rest stays.
  pub ranks : (l : Layout) (s list : List ℕ) → (resolved_of l s (length list)).number ≡ 0 →
      (ns : List ℕ) × Ranks l s (listing l s).units ns × ((resolved_of l s (length list)).count ≡ length ns)
      × (length ns ≤ length list) × (list_after l s list ≡ ns ++ drop (length ns) list)
  -- 12: each of them has its template, but there are more than the list has room for.
  pub short : (l : Layout) (s : List ℕ) (room : ℕ) → (resolved_of l s room).number ≡ 12 →
      (ns : List ℕ) × Ranks l s (listing l s).units ns × (room < length ns)
  -- A refusal writes nothing: it counts none,
  pub none : (l : Layout) (s : List ℕ) (room : ℕ) → ((resolved_of l s room).number ≡ 0 → ⊥) → (resolved_of l s room).count ≡ 0
  -- and leaves the list.
  pub stays : (l : Layout) (s list : List ℕ) → ((resolved_of l s (length list)).number ≡ 0 → ⊥) → list_after l s list ≡ list
