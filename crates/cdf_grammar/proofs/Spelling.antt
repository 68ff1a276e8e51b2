-- Content models read id by id: whether one spells no id, and what it spells after a first id.
use Rattle.std.proofs.Common.{ℕ, ◌≤◌, ◌≡◌, refl, sym, ◌∙◌, ap, subst, Bool, true, false, ◌&&◌, ◌||◌, cond, List, [], ◌∷◌, ◌++◌, ◌↔◌, ◌⊎◌, inl, inr}
use Rattle.std.proofs.Common.{eqb-true, ne_eqb, arith, T, eqb, ltb, ltb→lt}
use Rattle.std.proofs.lemmas.Bool.{false≢true, eqb-false}
use mathlib.Core.List.{nil≢cons, cons≢nil}
use mathlib.Core.Logic.Iff
use mathlib.Core.Option.{Option, none, some}
use Rattle.cdf_unit_table.proofs.Tests.{and_left, and_right}
use Rattle.cdf_grammar.specs.Content.{Content, empty, one, both, either, many, Pieces, end, piece, Spells}

-- It spells the empty sequence.
unfoldable pub nullable : Content → Bool
nullable empty = true
nullable (one id) = false
nullable (both a b) = nullable a && nullable b
nullable (either a b) = nullable a || nullable b
nullable (many a) = true

-- What may still come: a content model, or nothing whatever, not even the end.
abbrev pub Allows : Option Content → List ℕ → Type 0
Allows none ids = ⊥
Allows (some c) ids = Spells c ids

choice : Option Content → Option Content → Option Content
choice none y = y
choice (some a) none = some a
choice (some a) (some b) = some (either a b)

followed : Option Content → Content → Option Content
followed none b = none
followed (some a) b = some (both a b)

-- The derivative: what a content model spells after this id.
unfoldable pub derive : ℕ → Content → Option Content
unfolding nullable choice followed
derive id empty = none
derive id (one x) = cond (eqb x id) (some empty) none
derive id (both a b) = choice (followed (derive id a) b) (cond (nullable a) (derive id b) none)
derive id (either a b) = choice (derive id a) (derive id b)
derive id (many a) = followed (derive id a) (many a)

-- A sequence cut in two, as in `Spells (both a b)`.
abbrev Cut : (List ℕ → Type 0) → (List ℕ → Type 0) → List ℕ → Type 0
Cut P Q ids = (front : List ℕ) × (rest : List ℕ) × (ids ≡ front ++ rest) × P front × Q rest

module _ (P Q : List ℕ → Type 0) where
  cut_none : Cut P Q [] ↔ (P [] × Q [])
  cut_none = (λ c. go c.0 c.1 c.2 c.3 c.4, λ h. ([], [], refl, h.0, h.1))
    where
      go : (front rest : List ℕ) → [] ≡ front ++ rest → P front → Q rest → P [] × Q []
      go [] rest e p q = (p, subst Q (sym e) q)
      go (x ∷ front) rest e p q = absurd (nil≢cons e)

  -- The first id is in the first part, unless that is empty.
  cut_first : (id : ℕ) (ids : List ℕ) → Cut P Q (id ∷ ids) ↔ (Cut (λ cs. P (id ∷ cs)) Q ids ⊎ (P [] × Q (id ∷ ids)))
  cut_first id ids = (λ c. go c.0 c.1 c.2 c.3 c.4, back)
    where
      go : (front rest : List ℕ) → id ∷ ids ≡ front ++ rest → P front → Q rest →
          Cut (λ cs. P (id ∷ cs)) Q ids ⊎ (P [] × Q (id ∷ ids))
      go [] rest e p q = inr (p, subst Q (sym e) q)
      go (x ∷ front) rest e p q = let same : x ≡ id = cc in inl (front, rest, cc, (rw same at p), q)

      back : Cut (λ cs. P (id ∷ cs)) Q ids ⊎ (P [] × Q (id ∷ ids)) → Cut P Q (id ∷ ids)
      back (inl c) = (id ∷ c.0, c.1, ap (λ (cs : List ℕ). id ∷ cs) c.2, c.3, c.4)
      back (inr h) = ([], id ∷ ids, refl, h.0, h.1)

and_iff : (x y : Bool) {A B : Type 0} → A ↔ (x ≡ true) → B ↔ (y ≡ true) → (A × B) ↔ ((x && y) ≡ true)
and_iff true y f g = (λ h. g.0 h.1, λ e. (f.1 refl, g.1 e))
and_iff false y f g = (λ h. f.0 h.0, λ e. absurd (false≢true e))

or_iff : (x y : Bool) {A B : Type 0} → A ↔ (x ≡ true) → B ↔ (y ≡ true) → (A ⊎ B) ↔ ((x || y) ≡ true)
or_iff true y f g = (λ h. refl, λ e. inl (f.1 refl))
or_iff false y f g = (elim [ inl a ↦ absurd (false≢true (f.0 a)) | inr b ↦ g.0 b ], λ e. inr (g.1 e))

pub spells_none : (c : Content) → Spells c [] ↔ (nullable c ≡ true)
unfolding nullable
spells_none empty = (λ e. refl, λ e. refl)
spells_none (one id) = (λ e. absurd (nil≢cons e), λ e. absurd (false≢true e))
spells_none (both a b) =
    Iff.trans (cut_none (Spells a) (Spells b)) (and_iff (nullable a) (nullable b) (spells_none a) (spells_none b))
spells_none (either a b) = or_iff (nullable a) (nullable b) (spells_none a) (spells_none b)
spells_none (many a) = (λ p. refl, λ e. end refl)

module _ (ids : List ℕ) where
  allows_choice : (x y : Option Content) {A B : Type 0} → A ↔ Allows x ids → B ↔ Allows y ids → (A ⊎ B) ↔ Allows (choice x y) ids
  unfolding choice
  allows_choice none y f g = (elim [ inl a ↦ absurd (f.0 a) | inr b ↦ g.0 b ], λ h. inr (g.1 h))
  allows_choice (some a) none f g = (elim [ inl a ↦ f.0 a | inr b ↦ absurd (g.0 b) ], λ h. inl (f.1 h))
  allows_choice (some a) (some b) f g =
      (elim [ inl a ↦ inl (f.0 a) | inr b ↦ inr (g.0 b) ], elim [ inl a ↦ inl (f.1 a) | inr b ↦ inr (g.1 b) ])

  allows_followed : (x : Option Content) (b : Content) (P : List ℕ → Type 0) → ((cs : List ℕ) → P cs ↔ Allows x cs) →
      Cut P (Spells b) ids ↔ Allows (followed x b) ids
  unfolding followed
  allows_followed none b P f = (λ c. (f c.0).0 c.3, λ h. absurd h)
  allows_followed (some a) b P f =
      (λ c. (c.0, c.1, c.2, (f c.0).0 c.3, c.4), λ c. (c.0, c.1, c.2, (f c.0).1 c.3, c.4))

  allows_if : (t : Bool) (y : Option Content) {A B : Type 0} → A ↔ (t ≡ true) → B ↔ Allows y ids → (A × B) ↔ Allows (cond t y none) ids
  allows_if true y f g = (λ h. g.0 h.1, λ e. (f.1 refl, g.1 e))
  allows_if false y f g = (λ h. false≢true (f.0 h.0), λ h. absurd h)

  -- It is in the first piece that is not empty.
  pieces_first : (P : List ℕ → Type 0) (id : ℕ) → Pieces P (id ∷ ids) ↔ Cut (λ cs. P (id ∷ cs)) (Pieces P) ids
  pieces_first P id = (go refl, λ c. piece (id ∷ c.0) c.1 (ap (λ (cs : List ℕ). id ∷ cs) c.2) c.3 c.4)
    where
      First : Type 0
      First = Cut (λ cs. P (id ∷ cs)) (Pieces P) ids

      go : {js : List ℕ} → js ≡ id ∷ ids → Pieces P js → First
      go e (end z) = absurd (nil≢cons (sym z ∙ e))
      go e (piece front rest s p ps) =
          elim ((cut_first P (λ cs. Pieces P cs × (cs ≡ id ∷ ids → First)) id ids).0 (front, rest, sym e ∙ s, p, (ps, λ q. go q ps)))
          [ inl c ↦ (c.0, c.1, c.2, c.3, c.4.0) | inr h ↦ h.1.1 refl ]

pub spells_first : (c : Content) (id : ℕ) (ids : List ℕ) → Spells c (id ∷ ids) ↔ Allows (derive id c) ids
unfolding derive
spells_first empty id ids = (λ e. cons≢nil e, λ h. absurd h)
spells_first (one x) id ids = allows_one (eqb x id) refl
  where
    allows_one : (b : Bool) → eqb x id ≡ b → (id ∷ ids ≡ x ∷ []) ↔ Allows (cond b (some empty) none) ids
    allows_one true e = (λ q. cc, λ q. cc (eqb-true x id e))
    allows_one false e = (λ q. eqb-false x id e (cc), λ h. absurd h)
spells_first (both a b) id ids =
    Iff.trans (cut_first (Spells a) (Spells b) id ids)
    (allows_choice ids (followed (derive id a) b) (cond (nullable a) (derive id b) none)
    (allows_followed ids (derive id a) b (λ cs. Spells a (id ∷ cs)) (λ cs. spells_first a id cs))
    (allows_if ids (nullable a) (derive id b) (spells_none a) (spells_first b id ids)))
spells_first (either a b) id ids =
    allows_choice ids (derive id a) (derive id b) (spells_first a id ids) (spells_first b id ids)
spells_first (many a) id ids =
    Iff.trans (pieces_first ids (Spells a) id)
    (allows_followed ids (derive id a) (many a) (λ cs. Spells a (id ∷ cs)) (λ cs. spells_first a id cs))

-- The same of what may still come.
unfoldable pub may_end : Option Content → Bool
may_end none = false
may_end (some c) = nullable c

unfoldable pub left_after : ℕ → Option Content → Option Content
unfolding derive
left_after id none = none
left_after id (some c) = derive id c

pub allows_none : (x : Option Content) → Allows x [] ↔ (may_end x ≡ true)
unfolding may_end
allows_none none = (λ h. absurd h, λ e. absurd (false≢true e))
allows_none (some c) = spells_none c

pub allows_first : (x : Option Content) (id : ℕ) (ids : List ℕ) → Allows x (id ∷ ids) ↔ Allows (left_after id x) ids
unfolding left_after
allows_first none id ids = (λ h. h, λ h. h)
allows_first (some c) id ids = spells_first c id ids

-- A model that names only ids below n
names_below : ℕ → Content → Bool
names_below n empty = true
names_below n (one x) = ltb x n
names_below n (both a b) = names_below n a && names_below n b
names_below n (either a b) = names_below n a && names_below n b
names_below n (many a) = names_below n a

unfoldable pub within : ℕ → Option Content → Bool
unfolding names_below
within n none = true
within n (some c) = names_below n c

-- spells no other first.
module _ (n id : ℕ) (h : n ≤ id) where
  derive_beyond : (c : Content) → T (names_below n c) → derive id c ≡ none
  unfolding derive names_below
  derive_beyond empty t = refl
  derive_beyond (one x) t = rw (ne_eqb x id (λ e. absurd (omega (arith, ltb→lt x n t))))
  derive_beyond (both a b) t =
      rw (derive_beyond a (and_left (names_below n a) _ t), derive_beyond b (and_right (names_below n a) _ t)) (go (nullable a))
    where
      go : (x : Bool) → ◌≡◌ {A = Option Content} (cond x none none) none
      go true = refl
      go false = refl
  derive_beyond (either a b) t =
      rw (derive_beyond a (and_left (names_below n a) _ t), derive_beyond b (and_right (names_below n a) _ t))
  derive_beyond (many a) t = rw (derive_beyond a t)

  pub after_beyond : (x : Option Content) → T (within n x) → left_after id x ≡ none
  unfolding left_after within
  after_beyond none t = refl
  after_beyond (some c) t = derive_beyond c t
