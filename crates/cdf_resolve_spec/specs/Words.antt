-- What is resolved, in words that compute nothing: for the claims.
use Rattle.std.specs.Prelude.{ℕ, suc, ◌<◌, ◌≡◌, List, [], ◌∷◌, ◌⊎◌}
use Rattle.cdf_unit_table.specs.Ids.{template, temporary_key, entity_key}
use Rattle.cdf_unit_prefix.specs.Layout.{Layout}
use Rattle.cdf_unit_list.specs.Units.{listing}
use Rattle.cdf_unit_list.specs.Ranks.{ranked_units}
use Rattle.cdf_unit_list.specs.declared.Unit.{Unit}
use Rattle.cdf_unit_list.specs.declared.Ranked.{Ranked}
use Rattle.cdf_lookup_spec.specs.Find.{query, name_of, key_of}
use Rattle.cdf_lookup_spec.specs.Chosen.{First, KeyIn, Asked}

-- It is one of these.
abbrev pub In : {A : Type 0} → A → List A → Type 0
In x [] = ⊥
In x (y ∷ ys) = (x ≡ y) ⊎ In x ys

-- So many of the units have the property.
pub data Count (P : Unit → Type 0) : List Unit → ℕ → Type 0 where
  over : Count P [] 0
  more : {u : Unit} {us : List Unit} {n : ℕ} → P u → Count P us n → Count P (u ∷ us) (suc n)
  pass : {u : Unit} {us : List Unit} {n : ℕ} → (P u → ⊥) → Count P us n → Count P (u ∷ us) n

module _ (l : Layout) (s : List ℕ) where
  -- A unit of this id whose first key is a temporary one, with these bytes.
  abbrev pub HasTemporary : ℕ → List ℕ → Unit → Type 0
  HasTemporary id key u =
      (u.id ≡ id) × ((k : Unit) × First (KeyIn u) k (listing l s).units × (k.id ≡ temporary_key) × (key_of l s k ≡ key))

  -- A template, an entity key, with a temporary key.
  abbrev pub Unstored : Unit → Type 0
  Unstored t = (key : List ℕ) × HasTemporary template key t

  abbrev pub Asks : Unit → Type 0
  Asks u = (key : List ℕ) × HasTemporary entity_key key u

  -- The template t stands earlier than u, and has its name and this temporary key.
  abbrev pub Earlier : Unit → List ℕ → Unit → Type 0
  Earlier u key t = (t.start < u.start) × Asked l s (query (name_of l s u) temporary_key key []) t

  -- A template that an earlier one has the name and the temporary key of,
  abbrev pub Doubled : Unit → Type 0
  Doubled t =
      (key : List ℕ) × HasTemporary template key t × ((v : Unit) × In v (listing l s).units × Earlier t key v)

  -- and an entity key that no earlier template has those of.
  abbrev pub Lacking : Unit → Type 0
  Lacking u =
      (key : List ℕ) × HasTemporary entity_key key u × ((t : Unit) → In t (listing l s).units → Earlier u key t → ⊥)

  -- There is exactly one earlier template with its name and key.
  abbrev pub MeansOne : Unit → List ℕ → Type 0
  MeansOne u key =
      (t : Unit) × In t (listing l s).units × Earlier u key t
      × ((v : Unit) → In v (listing l s).units → Earlier u key v → v ≡ t)

  -- Of these units, each entity key with a temporary key in turn: the rank of an earlier template with its name and key.
  pub data Ranks : List Unit → List ℕ → Type 0 where
    end : Ranks [] []
    meant : {u : Unit} {us : List Unit} {ns : List ℕ} (key : List ℕ) (r : Ranked) → HasTemporary entity_key key u →
        In r (ranked_units l s) → Earlier u key r.unit → Ranks us ns → Ranks (u ∷ us) (r.rank ∷ ns)
    other : {u : Unit} {us : List Unit} {ns : List ℕ} → (Asks u → ⊥) → Ranks us ns → Ranks (u ∷ us) ns
