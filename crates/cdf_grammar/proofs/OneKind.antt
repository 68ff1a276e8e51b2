-- Trees of the published grammar have keys of one kind in each template and each entity key: by the productions alone.
use Rattle.std.proofs.Common.{ℕ, ◌≡◌, refl, ap, List, [], ◌∷◌, ◌++◌, append-nil, inl, inr}
use Rattle.cdf_unit_table.specs.Ids.{template, temporary_key, template_key, field, entity_key}
use Rattle.cdf_unit_table.proofs.Bools.{clash}
use Rattle.cdf_grammar.specs.Content.{one, Spells, Pieces, end, piece}
use Rattle.cdf_grammar.specs.Trees.{Forest, none, tree, ids}
use Rattle.cdf_grammar.specs.Published.{Each, Among, tmpl_key_list, production_of, Conforms}
use Rattle.cdf_grammar.specs.Claims.{keys_among, OneKind, OneKindEach}

-- Any number of units of one id.
pieces_each : (k : ℕ) {cs : List ℕ} → Pieces (Spells (one k)) cs → Each (λ c. c ≡ k) cs
pieces_each k (end e) = rw e (record {})
pieces_each k (piece front rest e p more) = rw (e, p) (refl, pieces_each k more)

keys_none : (cs : List ℕ) → Each (λ c. c ≡ field) cs → keys_among cs ≡ []
unfolding keys_among
keys_none [] h = refl
keys_none (c ∷ cs) h = rw h.0 (keys_none cs h.1)

-- A list of keys and then fields.
then_fields : (cs fs : List ℕ) → Spells tmpl_key_list cs → Each (λ c. c ≡ field) fs → OneKind (keys_among (cs ++ fs))
unfolding keys_among
then_fields cs fs (inl e) h = inl (rw e (ap (λ r. temporary_key ∷ r) (keys_none fs h)))
then_fields cs fs (inr (front, rest, e, p, more)) h =
    let all = pieces_each template_key more in
    rw (e, p) (inr ((λ z. clash cc), (refl, rw (keys_then rest fs all h) all)))
  where
    keys_then : (cs fs : List ℕ) → Each (λ c. c ≡ template_key) cs → Each (λ c. c ≡ field) fs → keys_among (cs ++ fs) ≡ cs
    keys_then [] fs all h = keys_none fs h
    keys_then (c ∷ cs) fs all h = rw all.0 (ap (λ r. template_key ∷ r) (keys_then cs fs all.1 h))

template_keys : (cs : List ℕ) → Spells (production_of template).content cs → OneKind (keys_among cs)
unfolding production_of
template_keys cs (front, rest, e, keys, fields) = rw e (then_fields front rest keys (pieces_each field fields))

entity_keys : (cs : List ℕ) → Spells (production_of entity_key).content cs → OneKind (keys_among cs)
unfolding production_of
entity_keys cs keys = rw (append-nil cs) at (then_fields cs [] keys (record {}))

of_unit : (id : ℕ) (cs : List ℕ) → Spells (production_of id).content cs → Among id (template ∷ entity_key ∷ []) → OneKind (keys_among cs)
of_unit id cs p (inl e) = template_keys cs (rw e at p)
of_unit id cs p (inr (inl e)) = entity_keys cs (rw e at p)
of_unit id cs p (inr (inr e)) = absurd e

pub one_kind : (t : Forest) → Conforms t → OneKindEach (template ∷ entity_key ∷ []) t
one_kind none c = record {}
one_kind (tree id action text inner rest) c = (of_unit id (ids inner) c.0.holds, one_kind inner c.1, one_kind rest c.2)
