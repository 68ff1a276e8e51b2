-- In a tree of the published grammar, behind each template and each entity key stands its first key, where its own data end.
use Rattle.std.proofs.Common.{ℕ, ◌+◌, ◌≤◌, ◌<◌, ◌≡◌, refl, ap, ◌∙◌, true, List, [], ◌∷◌, ◌++◌, ◌⊎◌, inl, inr, arith, length}
use Rattle.cdf_unit_table.specs.Ids.{template, temporary_key, template_key, entity_key}
use Rattle.cdf_unit_table.proofs.Bools.{clash}
use Rattle.cdf_unit_prefix.specs.Layout.{Layout, prefix_of}
use Rattle.cdf_unit_list.specs.declared.Unit.{Unit}
use Rattle.cdf_grammar.specs.Content.{Spells}
use Rattle.cdf_grammar.specs.Trees.{Forest, none, tree, ids}
use Rattle.cdf_grammar.specs.Published.{tmpl_key_list, Name, TextIs, production_of, Conforms}
use Rattle.cdf_grammar.specs.Encoding.{encode, own_length, list}
use Rattle.cdf_lookup_spec.specs.Find.{is_key}
use Rattle.cdf_lookup_spec.proofs.Telling.{key_is}
use Rattle.cdf_lookup_spec.proofs.Ordered.{long}

-- A unit that has keys.
abbrev pub Owner : ℕ → Type 0
Owner id = (id ≡ template) ⊎ (id ≡ entity_key)

-- The key k stands where the own data of t end, inside it; a temporary one has four bytes behind its prefix.
pub record Leads (l : Layout) (t k : Unit) : Type 0 where
  pub key : is_key k ≡ true
  pub name : t.start + prefix_of l ≤ t.own
  pub start : k.start ≡ t.own
  pub lies : k.start < t.end
  pub four : k.id ≡ temporary_key → k.end ≡ k.start + prefix_of l + 4

abbrev LeadNext : Layout → Unit → List Unit → Type 0
LeadNext l t [] = ⊥
LeadNext l t (k ∷ us) = Leads l t k

-- So it is of each unit that has keys.
abbrev pub Led : Layout → List Unit → Type 0
Led l [] = record {}
Led l (u ∷ us) = (Owner u.id → LeadNext l u us) × Led l us

next_on : (l : Layout) (t : Unit) (us vs : List Unit) → LeadNext l t us → LeadNext l t (us ++ vs)
next_on l t [] vs k = absurd k
next_on l t (u ∷ us) vs k = k

led_both : (l : Layout) (us vs : List Unit) → Led l us → Led l vs → Led l (us ++ vs)
led_both l [] vs p q = q
led_both l (u ∷ us) vs p q = ((λ o. next_on l u us vs (p.0 o)), led_both l us vs p.1 q)

-- A list of keys begins with one.
abbrev KeyFirst : List ℕ → Type 0
KeyFirst cs = (k : ℕ) × (more : List ℕ) × (cs ≡ k ∷ more) × ((k ≡ temporary_key) ⊎ (k ≡ template_key))

keys_first : (cs : List ℕ) → Spells tmpl_key_list cs → KeyFirst cs
keys_first cs (inl p) = (temporary_key, [], p, inl refl)
keys_first cs (inr (one, more, f, p, keys)) = (template_key, more, rw (f, p), inr refl)

-- What such a unit holds does, and its own data are a name.
template_first : (cs : List ℕ) → Spells (production_of template).content cs → KeyFirst cs
unfolding production_of
template_first cs (front, rest, e, keys, fields) =
    let f = keys_first front keys in
    (f.0, f.1 ++ rest, e ∙ ap (λ x. x ++ rest) f.2, f.3)

first_key : (id : ℕ) (cs : List ℕ) → Owner id → Spells (production_of id).content cs → KeyFirst cs
unfolding production_of
first_key id cs (inl o) p = template_first cs (rw o at p)
first_key id cs (inr o) p = keys_first cs (rw o at p)

named : (id : ℕ) (text : List ℕ) → Owner id → TextIs (production_of id).text text → own_length (production_of id).text text ≡ length text
unfolding production_of own_length
named id text (inl o) n = let m : Name text = rw o at n in rw (o, m.spelled)
named id text (inr o) n = let m : Name text = rw o at n in rw (o, m.spelled)

none_inside : (t : Forest) → ids t ≡ [] → t ≡ none
unfolding ids
none_inside none e = refl
none_inside (tree id action text inner rest) e = clash cc

-- A temporary key is its four bytes.
four_long : (l : Layout) (id : ℕ) (text : List ℕ) (inner : Forest) → id ≡ temporary_key → TextIs (production_of id).text text →
    Spells (production_of id).content (ids inner) → length text + length (encode l inner) ≡ 4
unfolding production_of encode
four_long l id text inner e n p =
    let four : length text ≡ 4 = rw e at n in
    let empty : ids inner ≡ [] = rw e at p in
    rw (none_inside inner empty, four)

module _ (l : Layout) where
  lead_next : (t : Unit) (x : ℕ) (inner : Forest) → KeyFirst (ids inner) → Conforms inner → t.start + prefix_of l ≤ t.own → x ≡ t.own →
      x + length (encode l inner) ≤ t.end → LeadNext l t (list l x inner)
  unfolding list ids
  lead_next t x none (k, more, e, kind) c name own h = clash cc
  lead_next t x (tree id action text inner rest) (k, more, e, kind) c name own h =
      let same : id ≡ k = cc in
      record {
        key = key_is _ (rw same kind);
        name = name;
        start = own;
        lies = omega (arith, long l id action text inner rest);
        four = λ z. let f = four_long l id text inner z c.0.says c.0.holds in omega (arith, f);
      }

  pub led : (at : ℕ) (t : Forest) → Conforms t → Led l (list l at t)
  unfolding list
  led at none c = record {}
  led at (tree id action text inner rest) c =
      let x = at + prefix_of l + length text in
      let end = at + prefix_of l + (length text + length (encode l inner)) in (
        (λ o.
            next_on l _ (list l x inner) (list l end rest)
            (lead_next _ x inner (first_key id (ids inner) o c.0.holds) c.1 (omega arith) (rw (named id text o c.0.says)) (omega arith))),
        led_both l (list l x inner) (list l end rest) (led x inner c.1) (led end rest c.2),
      )
