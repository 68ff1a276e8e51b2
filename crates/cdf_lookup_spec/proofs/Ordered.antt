-- The units of a tree of the published grammar: their starts rise, and behind each template stands its first key.
use Rattle.std.proofs.Common.{ℕ, suc, ◌+◌, ◌≤◌, ◌<◌, ◌≡◌, refl, true, List, [], ◌∷◌, ◌++◌, ◌⊎◌, inl, inr, arith, length, length-append}
use Rattle.cdf_unit_table.specs.Ids.{template, temporary_key, template_key}
use Rattle.cdf_unit_table.proofs.Bools.{clash}
use Rattle.cdf_unit_prefix.specs.Layout.{Layout, prefix_of}
use Rattle.cdf_unit_list.specs.declared.Unit.{Unit}
use Rattle.cdf_grammar.specs.Content.{Spells}
use Rattle.cdf_grammar.specs.Trees.{Forest, none, tree, ids}
use Rattle.cdf_grammar.specs.Published.{production_of, Conforms}
use Rattle.cdf_grammar.specs.Encoding.{encode, list}
use Rattle.cdf_grammar.proofs.Built.{encode_tree, length_unit}
use Rattle.cdf_lookup_spec.specs.Find.{is_key}
use Rattle.cdf_lookup_spec.proofs.Telling.{key_is}

-- The starts rise strictly, from a on, and stay below b.
abbrev pub Rising : ℕ → ℕ → List Unit → Type 0
Rising a b [] = a ≤ b
Rising a b (u ∷ us) = (a ≤ u.start) × Rising (suc u.start) b us

lower : (a x b : ℕ) (us : List Unit) → a ≤ x → Rising x b us → Rising a b us
lower a x b [] less r = omega arith
lower a x b (u ∷ us) less r = (omega (arith, r.0), r.1)

rising_joined : (a b x : ℕ) (us vs : List Unit) → Rising a x us → Rising x b vs → Rising a b (us ++ vs)
rising_joined a b x [] vs r q = lower a x b vs r q
rising_joined a b x (u ∷ us) vs r q = (r.0, rising_joined (suc u.start) b x us vs r.1 q)

module _ (l : Layout) where
  -- How many bytes a tree and those after it take.
  pub long : (id action : ℕ) (text : List ℕ) (inner rest : Forest) →
      length (encode l (tree id action text inner rest))
      ≡ prefix_of l + (length text + length (encode l inner)) + length (encode l rest)
  long id action text inner rest = rw (encode_tree, length-append, length_unit)

  pub rising : (at : ℕ) (t : Forest) → Rising at (at + length (encode l t)) (list l at t)
  unfolding list
  rising at none = omega arith
  rising at (tree id action text inner rest) =
      let x = at + prefix_of l + length text in
      let end = at + prefix_of l + (length text + length (encode l inner)) in
      let nested : Rising x end (list l x inner) =
      let e : x + length (encode l inner) ≡ end = omega arith in rw e at (rising x inner) in
      let later : Rising end (at + length (encode l (tree id action text inner rest))) (list l end rest) =
      let e : end + length (encode l rest) ≡ at + length (encode l (tree id action text inner rest)) =
      omega (arith, long id action text inner rest) in
      rw e at (rising end rest) in
      (omega arith, rising_joined (suc at) _ end (list l x inner) (list l end rest) (lower (suc at) x end (list l x inner) (omega arith) nested) later)

-- The next of the units is a key, and lies in t.
abbrev pub KeyNext : Unit → List Unit → Type 0
KeyNext t [] = ⊥
KeyNext t (k ∷ us) = (is_key k ≡ true) × (k.start < t.end)

-- So it is of each template.
abbrev pub Keyed : List Unit → Type 0
Keyed [] = record {}
Keyed (u ∷ us) = (u.id ≡ template → KeyNext u us) × Keyed us

next_on : (t : Unit) (us vs : List Unit) → KeyNext t us → KeyNext t (us ++ vs)
next_on t [] vs k = absurd k
next_on t (u ∷ us) vs k = k

keyed_both : (us vs : List Unit) → Keyed us → Keyed vs → Keyed (us ++ vs)
keyed_both [] vs p q = q
keyed_both (u ∷ us) vs p q = ((λ e. next_on u us vs (p.0 e)), keyed_both us vs p.1 q)

-- What a template holds begins with a key.
key_first : (cs : List ℕ) → Spells (production_of template).content cs →
    (k : ℕ) × (more : List ℕ) × (cs ≡ k ∷ more) × ((k ≡ temporary_key) ⊎ (k ≡ template_key))
unfolding production_of
key_first cs (front, rest, e, inl p, fields) = (temporary_key, rest, rw (e, p), inl refl)
key_first cs (front, rest, e, inr (one, more, f, p, keys), fields) = (template_key, more ++ rest, rw (e, f, p), inr refl)

module _ (l : Layout) where
  next_key : (t : Unit) (x : ℕ) (inner : Forest) → Spells (production_of template).content (ids inner) →
      x + length (encode l inner) ≤ t.end → KeyNext t (list l x inner)
  unfolding list ids
  next_key t x none p h = let k = key_first [] p in clash (cc k.2)
  next_key t x (tree id action text inner rest) p h =
      let k = key_first (id ∷ ids rest) p in
      let same : id ≡ k.0 = cc k.2 in
      (key_is _ (rw same k.3), omega (arith, long l id action text inner rest))

  pub keyed : (at : ℕ) (t : Forest) → Conforms t → Keyed (list l at t)
  unfolding list
  keyed at none c = record {}
  keyed at (tree id action text inner rest) c =
      let x = at + prefix_of l + length text in
      let end = at + prefix_of l + (length text + length (encode l inner)) in
      let t : Unit = record { id = id; action = action; start = at; own = x; end = end } in (
        (λ e. next_on t (list l x inner) (list l end rest) (next_key t x inner (rw e at c.0.holds) (omega arith))),
        keyed_both (list l x inner) (list l end rest) (keyed x inner c.1) (keyed end rest c.2),
      )
