-- Where the units of a group stand among those of the trees that the requests tell of.
use Rattle.std.proofs.Common.{ℕ, suc, ◌+◌, ◌≡◌, refl, sym, ap, ap₂, ◌∙◌, List, [], ◌∷◌, ◌++◌, map, append_assoc, append-nil, ◌⊎◌, inl, inr, arith}
use Rattle.std.proofs.Common.{length, length-append}
use Rattle.std.proofs.lemmas.List.{map-append}
use Rattle.cdf_unit_table.proofs.Bools.{clash}
use Rattle.cdf_unit_prefix.specs.Layout.{Layout, layout_of, prefix_of}
use Rattle.cdf_unit_prefix.specs.declared.Edition.{Edition}
use Rattle.cdf_unit_list.specs.declared.Unit.{Unit}
use Rattle.cdf_grammar.specs.Trees.{Forest, none, tree}
use Rattle.cdf_grammar.specs.Published.{production_of}
use Rattle.cdf_grammar.specs.Encoding.{Stream, encode, list, own_length, Item, says}
use Rattle.cdf_grammar.proofs.Built.{encode_none}
use Rattle.cdf_builder_spec.specs.Requests.{Request, unit, group}
use Rattle.cdf_builder_spec.proofs.Replying.{unit_size}
use Rattle.cdf_builder_runs.specs.Runs.{sizes, requested}
use Rattle.cdf_builder_runs.specs.Telling.{Tells}
use Rattle.cdf_builder_groups.specs.Claims.{moved_by}
use Rattle.cdf_builder_runs.proofs.Rooms.{sizes_end, sizes_on}
use Rattle.cdf_builder_runs.proofs.Said.{requested_append, requested_says, requested_none, requested_unit}
use Rattle.cdf_builder_groups.proofs.Told.{sizes_append, tree_size, tells_sizes}

-- An element of two lists, one after the other, is in the first or in the second.
splits : {A : Type 0} (a b xs : List A) (x : A) (ys : List A) → a ++ b ≡ xs ++ (x ∷ ys) →
    ((m : List A) × (a ≡ xs ++ (x ∷ m)) × (ys ≡ m ++ b)) ⊎ ((m : List A) × (xs ≡ a ++ m) × (b ≡ m ++ (x ∷ ys)))
splits [] b xs x ys e = inr (xs, refl, e)
splits (c ∷ a) b [] x ys e = inl (a, cc, cc)
splits {A} (c ∷ a) b (d ∷ xs) x ys e = elim (splits a b xs x ys cc) [
  | inl w ↦ inl (w.0, cc, w.2)
  | inr w ↦ inr (w.0, cc, w.2)
]

module _ (l : Layout) where
  -- The first unit of a tree that stands at a position.
  abbrev first : ℕ → ℕ → ℕ → List ℕ → Forest → Unit
  first at id action text inner = record {
    id = id;
    action = action;
    start = at;
    own = at + prefix_of l + own_length (production_of id).text text;
    end = at + prefix_of l + (length text + length (encode l inner));
  }

  list_none : (at : ℕ) → list l at none ≡ []
  unfolding list
  list_none at = refl

  list_tree : (at id action : ℕ) (text : List ℕ) (inner rest : Forest) →
      list l at (tree id action text inner rest)
      ≡ first at id action text inner
      ∷ (list l (at + prefix_of l + length text) inner ++ list l (at + prefix_of l + (length text + length (encode l inner))) rest)
  unfolding list
  list_tree at id action text inner rest = refl

  -- The first tree, and the trees after it.
  list_first : (at id action : ℕ) (text : List ℕ) (inner rest : Forest) →
      list l at (tree id action text inner rest)
      ≡ list l at (tree id action text inner none) ++ list l (at + prefix_of l + (length text + length (encode l inner))) rest
  list_first at id action text inner rest =
      rw (list_tree at id action text inner rest, list_tree at id action text inner none, list_none, append-nil (list l (at + prefix_of l + length text) inner))

  moved_first : (base at id action : ℕ) (text : List ℕ) (inner : Forest) →
      first (base + at) id action text inner ≡ moved_by base (first at id action text inner)
  unfolding moved_by
  moved_first base at id action text inner =
      ap₂ (λ (own end : ℕ). record { id = id; action = action; start = base + at; own = own; end = end }) (omega arith) (omega arith)

  -- Trees that stand further have the same units, moved.
  pub moved_list : (base at : ℕ) (f : Forest) → list l (base + at) f ≡ map (moved_by base) (list l at f)
  moved_list base at none = rw (list_none (base + at), list_none at)
  moved_list base at (tree id action text inner rest) =
      let body : base + at + prefix_of l + length text ≡ base + (at + prefix_of l + length text) = omega arith in
      let end : base + at + prefix_of l + (length text + length (encode l inner)) ≡ base + (at + prefix_of l + (length text + length (encode l inner))) =
      omega arith in
      rw (
        list_tree (base + at) id action text inner rest,
        list_tree at id action text inner rest,
        map-append (moved_by base),
        moved_first base at id action text inner,
        body,
        end,
        moved_list base (at + prefix_of l + length text) inner,
        moved_list base (at + prefix_of l + (length text + length (encode l inner))) rest,
      )

  list_count : (at : ℕ) (f : Forest) → length (list l at f) ≡ length (says f)
  unfolding says
  list_count at none = rw (list_none at)
  list_count at (tree id action text inner rest) =
      let body = at + prefix_of l + length text in
      let end = at + prefix_of l + (length text + length (encode l inner)) in
      rw (list_tree at id action text inner rest, length-append (list l body inner) (list l end rest), list_count body inner, list_count end rest)
      (sym (ap suc (length-append (says inner) (says rest))))

  -- Of the trees' units, these stand before and behind those of the group, whose tree is `root`.
  pub record Stands (at : ℕ) (f : Forest) (xs : List Request) (g : List ℕ) : Type 0 where
    pub root : Forest
    pub stream : Stream l g root
    pub before : List Unit
    pub after : List Unit
    pub parts : list l at f ≡ before ++ (list l (at + sizes l xs) root ++ after)
    pub count : length before ≡ length (requested l xs)

module _ (e : Edition) (g : List ℕ) where
  abbrev l : Layout
  l = layout_of e

  module _ (at id action : ℕ) (text : List ℕ) (inner rest : Forest) where
    abbrev end : ℕ
    end = at + prefix_of l + (length text + length (encode l inner))

    -- The group stands behind the first tree,
    stands_behind : (hs m : List Request) → Tells l (tree id action text inner none) hs → Stands l end rest m g →
        Stands l at (tree id action text inner rest) (hs ++ m) g
    stands_behind hs m tells s =
        let alone = tree id action text inner none in
        let size : sizes l hs ≡ prefix_of l + (length text + length (encode l inner)) =
        tells_sizes l alone hs tells ∙ tree_size l id action text inner none ∙ rw (encode_none l) (omega arith) in
        let there : end + sizes l m ≡ at + sizes l (hs ++ m) = rw (sizes_append l hs m, size) (omega arith) in
        record {
          root = s.root;
          stream = s.stream;
          before = list l at alone ++ s.before;
          after = s.after;
          parts = rw (list_first l at id action text inner rest, s.parts, there) (sym (append_assoc (list l at alone) s.before _));
          count =
              rw (length-append, s.count, list_count l at alone, requested_says e alone hs tells, requested_append l hs m, length-append);
        }

    -- or in it.
    stands_in : (m : List Request) → Stands l (at + prefix_of l + length text) inner m g →
        Stands l at (tree id action text inner rest) (unit (record { id = id; action = action; text = text }) ∷ m) g
    stands_in m s =
        let u : Item = record { id = id; action = action; text = text } in
        let there : at + prefix_of l + length text + sizes l m ≡ at + sizes l (unit u ∷ m) =
        rw (sizes_on l (unit u) m, unit_size l u) (omega arith) in
        record {
          root = s.root;
          stream = s.stream;
          before = first l at id action text inner ∷ s.before;
          after = s.after ++ list l end rest;
          parts =
              rw (list_tree l at id action text inner rest, s.parts, there)
              (simp append_assoc);
          count = rw (requested_unit l u m, s.count);
        }

  stands_first : (id action : ℕ) (text : List ℕ) (inner rest : Forest) (at : ℕ) → Stream l g (tree id action text inner none) →
      Stands l at (tree id action text inner rest) [] g
  stands_first id action text inner rest at s =
      let here : at + sizes l [] ≡ at = rw (sizes_end l) (omega arith) in
      record {
        root = tree id action text inner none;
        stream = s;
        before = [];
        after = list l (end at id action text inner rest) rest;
        parts = rw here (list_first l at id action text inner rest);
        count = rw (requested_none l);
      }

  -- Wherever the group is told, its units stand, as far from the front as the requests before it take.
  abbrev Standing : Forest → Type 0
  Standing f = (at : ℕ) (rs xs ys : List Request) → Tells l f rs → rs ≡ xs ++ (group g ∷ ys) → Stands l at f xs g

  module _ (id action : ℕ) (text : List ℕ) (inner rest : Forest) (over-inner : Standing inner) (over-rest : Standing rest) (at : ℕ) where
    abbrev item : Item
    item = record { id = id; action = action; text = text }

    by_unit : (within later xs ys : List Request) → Tells l inner within → Tells l rest later → within ++ later ≡ xs ++ (group g ∷ ys) →
        Stands l at (tree id action text inner rest) (unit item ∷ xs) g
    by_unit within later xs ys inside behind e = elim (splits within later xs (group g) ys e) [
      | inl w ↦
          stands_in at id action text inner rest xs (over-inner (at + prefix_of l + length text) within xs w.0 inside w.1)
      | inr w ↦
          rw w.1
          (stands_behind at id action text inner rest (unit item ∷ within) w.0 (inl (within, [], rw append-nil, inside, refl))
          (over-rest (end at id action text inner rest) later w.0 ys behind w.2))
    ]

    over_tree : (rs xs ys : List Request) → Tells l (tree id action text inner rest) rs → rs ≡ xs ++ (group g ∷ ys) →
        Stands l at (tree id action text inner rest) xs g
    over_tree rs [] ys (inl (within, later, is, inside, behind)) e = clash cc
    over_tree rs (x ∷ xs) ys (inl (within, later, is, inside, behind)) e =
        let same : x ≡ unit item = cc in
        rw same (by_unit within later xs ys inside behind cc)
    over_tree rs [] ys (inr (b, later, is, kind, s, behind)) e =
        let same : b ≡ g = cc in
        stands_first id action text inner rest at (rw same at s)
    over_tree rs (x ∷ xs) ys (inr (b, later, is, kind, s, behind)) e =
        let same : x ≡ group b = cc in
        rw same
        (stands_behind at id action text inner rest (group b ∷ []) xs (inr (b, [], refl, kind, s, refl))
        (over-rest (end at id action text inner rest) later xs ys behind cc))

  over_none : Standing none
  over_none at rs [] ys t e = clash cc
  over_none at rs (x ∷ xs) ys t e = clash cc

  pub stands : (f : Forest) → Standing f
  stands none = over_none
  stands (tree id action text inner rest) = over_tree id action text inner rest (stands inner) (stands rest)
