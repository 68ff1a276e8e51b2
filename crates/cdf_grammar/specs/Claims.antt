-- What is claimed of the check's definition and the published grammar: the check accepts exactly what it describes (01,
-- "What the statements have to settle"). The term of this record stands in proofs/Proved.
use Rattle.std.specs.Prelude.{ℕ, ◌≤◌, ◌≡◌, cond, ◌||◌, ◌↔◌, ◌⊎◌, eqb, length, List, [], ◌∷◌, map}
use mathlib.Core.List.{flatten}
use Rattle.cdf_unit_table.specs.Ids.{er_group, template, temporary_key, template_key, entity_key, file_group}
use Rattle.cdf_unit_prefix.specs.Layout.{Layout, layout_of}
use Rattle.cdf_unit_list.specs.Units.{listing}
use Rattle.cdf_unit_list.specs.Check.{check_of}
use Rattle.cdf_unit_list.specs.Ranks.{stands_in}
use Rattle.cdf_unit_list.specs.Samples.{k2}
use Rattle.cdf_unit_prefix.specs.declared.Edition.{Edition}
use Rattle.cdf_unit_prefix.specs.declared.Edition.TheVariants.{First}
use Rattle.cdf_grammar.specs.Trees.{Forest, none, tree, ids, units, depth}
use Rattle.cdf_grammar.specs.Published.{Each, Among}
use Rattle.cdf_grammar.specs.Encoding.{Bytes, Stream, list, Item, item_of}
use Rattle.cdf_grammar.specs.Groups.{Children, group_bytes, Holds}
use Rattle.cdf_grammar.specs.Ranking.{stands}
use Rattle.cdf_grammar.specs.Example.{person}

-- The check accepts these bytes.
abbrev pub Accepted : Layout → List ℕ → Type 0
Accepted l s = (check_of l s).number ≡ 0

-- What the units of these bytes say, in order.
unfoldable pub items_of : Layout → List ℕ → List Item
unfolding item_of listing
items_of l s = map (item_of l s) (listing l s).units

-- Those of these ids that are a key's.
unfoldable pub keys_among : List ℕ → List ℕ
keys_among [] = []
keys_among (c ∷ cs) = cond (eqb c temporary_key || eqb c template_key) (c ∷ keys_among cs) (keys_among cs)

-- One temporary key and no other key, or template keys alone and at least one.
abbrev pub OneKind : List ℕ → Type 0
OneKind keys = (keys ≡ temporary_key ∷ []) ⊎ ((keys ≡ [] → ⊥) × Each (λ k. k ≡ template_key) keys)

-- Each unit of these kinds, anywhere in the trees, has keys of one kind.
abbrev pub OneKindEach : List ℕ → Forest → Type 0
OneKindEach kinds none = record {}
OneKindEach kinds (tree id action text inner rest) =
    (Among id kinds → OneKind (keys_among (ids inner))) × OneKindEach kinds inner × OneKindEach kinds rest

-- What holds in one edition. `A ↔ B` is 'A exactly if B', and `(t : Forest) × P t` is 'there is a t with P t'.
pub record InEdition (e : Edition) : Type 0 where
  -- Bytes are accepted exactly if a tree of the published grammar encodes to them within the limit.
  pub exactly : (s : List ℕ) → Bytes s → Accepted (layout_of e) s ↔ ((t : Forest) × Stream (layout_of e) s t)
  -- The count is that tree's number of units.
  pub counted : (s : List ℕ) (t : Forest) → Stream (layout_of e) s t →
      check_of (layout_of e) s ≡ record { number = 0; value = units t }
  -- There is only one such tree.
  pub unique : (s : List ℕ) (t u : Forest) → Stream (layout_of e) s t → Stream (layout_of e) s u → t ≡ u
  -- The unit list is that tree's.
  pub listed : (s : List ℕ) (t : Forest) → Stream (layout_of e) s t → (listing (layout_of e) s).units ≡ list (layout_of e) 0 t
  -- Depth and rank of each listed unit are that tree's: the root's are 1 and 0 (02, g).
  pub ranked : (s : List ℕ) (t : Forest) → Stream (layout_of e) s t → stands_in (layout_of e) s ≡ stands 1 0 t
  -- It is at most five units deep.
  pub shallow : (s : List ℕ) (t : Forest) → Stream (layout_of e) s t → depth t ≤ 5
  -- Each of its templates and entity keys has one temporary key and no other key, or only template keys (02, c).
  pub one_kind : (s : List ℕ) (t : Forest) → Stream (layout_of e) s t → OneKindEach (template ∷ entity_key ∷ []) t
  -- Two accepted streams whose units say the same are the same bytes.
  pub same : (s r : List ℕ) → Bytes s → Bytes r → Accepted (layout_of e) s → Accepted (layout_of e) r →
      items_of (layout_of e) s ≡ items_of (layout_of e) r → s ≡ r
  -- Bytes of units make a group exactly if there is one or more, a group takes each of them as its first, and all are within the limit.
  pub children : (group : ℕ) → Among group (er_group ∷ file_group ∷ []) → (units : List (List ℕ)) → Bytes (flatten units) →
      Holds (layout_of e) group units
      ↔ ((units ≡ [] → ⊥) × Children (layout_of e) group units × (length (group_bytes (layout_of e) group units) ≤ (layout_of e).limit))

pub record Claims : Type 0 where
  -- All of this holds in each edition.
  pub streams : (e : Edition) → InEdition e
  -- The sample K2 is a stream: the example's tree.
  pub example : Stream (layout_of First) k2 person
