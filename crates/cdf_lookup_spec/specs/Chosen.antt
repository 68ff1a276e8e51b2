-- What a value is the value of, in words that compute nothing: for the claims.
use Rattle.std.specs.Prelude.{ℕ, ◌-◌, ◌<◌, ◌≡◌, cond, List, [], ◌∷◌, ◌⊎◌, eqb}
use Rattle.cdf_unit_table.specs.Ids.{er_group, template, temporary_key, template_key, field}
use Rattle.cdf_unit_prefix.specs.Layout.{Layout}
use Rattle.cdf_unit_list.specs.Units.{listing}
use Rattle.cdf_unit_list.specs.declared.Unit.{Unit}
use Rattle.cdf_lookup_spec.specs.Find.{Query, name_of, key_of}

-- The unit is the first of these that has the property,
pub data First (P : Unit → Type 0) (u : Unit) : List Unit → Type 0 where
  here : {us : List Unit} → P u → First P u (u ∷ us)
  later : {v : Unit} {us : List Unit} → (P v → ⊥) → First P u us → First P u (v ∷ us)

-- and none of these has it.
abbrev pub None : (Unit → Type 0) → List Unit → Type 0
None P [] = record {}
None P (u ∷ us) = (P u → ⊥) × None P us

-- The unit u lies in t.
abbrev pub Within : Unit → Unit → Type 0
Within t u = (t.start < u.start) × (u.start < t.end)

-- Its id and its name, with the count byte.
abbrev pub HasName : Layout → List ℕ → ℕ → List ℕ → Unit → Type 0
HasName l s id name u = (u.id ≡ id) × (name_of l s u ≡ name)

-- A key in t, and a field of the name in t.
abbrev pub KeyIn : Unit → Unit → Type 0
KeyIn t k = Within t k × ((k.id ≡ temporary_key) ⊎ (k.id ≡ template_key))

abbrev pub FieldIn : Layout → List ℕ → Query → Unit → Unit → Type 0
FieldIn l s q t u = Within t u × HasName l s field q.field u

-- A template of the name, whose first key has the id and the bytes that are asked for.
abbrev pub Asked : Layout → List ℕ → Query → Unit → Type 0
Asked l s q t =
    HasName l s template q.template t
    × ((k : Unit) × First (KeyIn t) k (listing l s).units × (k.id ≡ q.key_id) × (key_of l s k ≡ q.key))

-- The part is the value of the first field of the name in the first such template.
pub record Chosen (l : Layout) (s : List ℕ) (q : Query) (start size : ℕ) : Type 0 where
  pub template : Unit
  pub field : Unit
  pub first_template : First (Asked l s q) template (listing l s).units
  pub first_field : First (FieldIn l s q template) field (listing l s).units
  pub begins : start ≡ field.own
  pub long : size ≡ field.end - field.own

-- The first such template, if there is one, has no such field.
abbrev pub Lacks : Layout → List ℕ → Query → Type 0
Lacks l s q = (t : Unit) → First (Asked l s q) t (listing l s).units → None (FieldIn l s q t) (listing l s).units

-- The stream that is named: the second by 2, the first by any other number, as a refusal's part stands in the first.
abbrev pub stream_of : {A : Type 0} → ℕ → A → A → A
stream_of which first second = cond (eqb which 2) second first

-- The root, which is listed first, is an E/R group.
abbrev pub Grouped : Layout → List ℕ → Type 0
Grouped l s = (root : Unit) × (us : List Unit) × ((listing l s).units ≡ root ∷ us) × (root.id ≡ er_group)
