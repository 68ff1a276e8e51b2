-- The units of trees stand in their list as in the trees, by the law of ranks.
use Rattle.std.proofs.Common.{◌≡◌, refl, sym, ap, subst, Bool, true, false, List, [], ◌∷◌, ◌++◌, map, append-nil, ℕ, suc, ◌+◌, ◌≤◌, ◌<◌, arith}
use Rattle.std.proofs.Common.{lt-ltb, le-ltb, length}
use Rattle.std.proofs.lemmas.List.{map-append}
use mathlib.Core.Bool.{and-false}
use mathlib.Core.List.{reverse_aux, reverse_aux-append}
use Rattle.cdf_unit_table.specs.States.{opens}
use Rattle.cdf_unit_table.proofs.Bools.{clash}
use Rattle.cdf_unit_prefix.specs.Layout.{Layout, prefix_of}
use Rattle.cdf_unit_list.specs.Units.{open_at, parents_that}
use Rattle.cdf_unit_list.specs.Ranks.{rank_in, standing, ranked}
use Rattle.cdf_unit_list.specs.declared.Unit.{Unit}
use Rattle.cdf_unit_list.specs.declared.Ranked.{Ranked}
use Rattle.cdf_unit_list.proofs.Nested.{Nested}
use Rattle.cdf_unit_list.proofs.StatesListed.{open_of, Before, before_later, new_inside}
use Rattle.cdf_unit_list.proofs.Ranks.{Counted, inner_counted, rank_due}
use Rattle.cdf_grammar.specs.Trees.{Forest, none, tree, ids}
use Rattle.cdf_grammar.specs.Encoding.{encode, list}
use Rattle.cdf_grammar.specs.Ranking.{stands}
use Rattle.cdf_grammar.proofs.Fits.{Passes, Fits}
use Rattle.cdf_grammar.proofs.Built.{length_tree}
use Rattle.cdf_grammar.proofs.Forward.{inner_at, unit_here, list_tree, list_one}

-- Where a unit stands.
abbrev stand : Ranked → ℕ × ℕ
stand r = (r.depth, r.rank)

ranked_append : (us vs ws : List Unit) → ranked us (vs ++ ws) ≡ ranked us vs ++ ranked (reverse_aux vs us) ws
unfolding ranked
ranked_append us [] ws = refl
ranked_append us (v ∷ vs) ws = ap (λ x. standing us v ∷ x) (ranked_append (v ∷ us) vs ws)

stand_parts : (us : List Unit) (v : Unit) (vs ws : List Unit) →
    map stand (ranked us (v ∷ (vs ++ ws)))
    ≡ stand (standing us v) ∷ (map stand (ranked (v ∷ us) vs) ++ map stand (ranked (reverse_aux vs (v ∷ us)) ws))
unfolding ranked
stand_parts us v vs ws = ap (λ x. stand (standing us v) ∷ x) (rw (ranked_append (v ∷ us) vs ws, map-append stand))

-- In `us` these units are open from the position to the innermost one's end, and so many stand directly in each.
record Around (us : List Unit) (o : Unit) (ws : List Unit) (pos : ℕ) (ks : List ℕ) (r : ℕ) : Type 0 where
  opened : (p : ℕ) → pos ≤ p → p < o.end → open_at p us ≡ o ∷ ws
  before : Before pos us
  nested : Nested pos pos (o ∷ ws)
  counted : Counted us (map (open_of []) (o ∷ ws)) ks r

-- A unit that ends later is open, if it admits others; one that ended is not.
opens_later : (u : Unit) (us : List Unit) (p : ℕ) → opens u.id ≡ true → p < u.end → open_at p (u ∷ us) ≡ u ∷ open_at p us
unfolding open_at parents_that
opens_later u us p e h = rw (e, lt-ltb p u.end h)

ends_before : (u : Unit) (us : List Unit) (p : ℕ) → u.end ≤ p → open_at p (u ∷ us) ≡ open_at p us
unfolding open_at parents_that
ends_before u us p h = rw (le-ltb p u.end h, and-false)

module _ (l : Layout) where
  -- Behind trees none of their units is open.
  passed : (f : Forest) (pos : ℕ) (us : List Unit) (p : ℕ) → pos + length (encode l f) ≤ p → open_at p (reverse_aux (list l pos f) us) ≡ open_at p us
  unfolding list
  passed none pos us p h = refl
  passed (tree id action text inner rest) pos us p h =
      let u = unit_here l pos id action text inner in
      let at = inner_at l pos text in
      let long = length_tree l id action text inner rest in
      rw (
        reverse_aux-append,
        passed rest u.end (reverse_aux (list l at inner) (u ∷ us)) p (omega arith),
        passed inner at (u ∷ us) p (omega arith),
        ends_before u us p (omega arith),
      )

  -- A unit that was listed is around those nested in it, if it admits any.
  enter : (v : Unit) (at : ℕ) → v.start < at → at ≤ v.end → (us ws : List Unit) →
      ((p : ℕ) → v.start ≤ p → p < v.end → open_at p us ≡ ws) → Before v.start us → Nested v.start v.end ws → (ks : List ℕ) (r : ℕ) →
      Counted (v ∷ us) (map (open_of []) ws) ks (suc r) → opens v.id ≡ true → Around (v ∷ us) v ws at (r ∷ ks) 0
  enter v at low high us ws stay before nested ks r counted e = record {
    opened = λ p from to. rw (opens_later v us p e to, stay p (omega arith) to);
    before = (low, before_later us v.start at (omega arith) before);
    nested = (low, high, nested);
    counted = (ap length (new_inside v us before), counted);
  }

  -- Trees in an open unit: they stand in it from the rank on that is due there, and behind them it is due by as many more.
  record Over (f : Forest) (us : List Unit) (o : Unit) (ws : List Unit) (pos : ℕ) (ks : List ℕ) (r : ℕ) : Type 0 where
    same : map stand (ranked us (list l pos f)) ≡ stands (suc (suc (length ws))) r f
    next : ℕ
    around : Around (reverse_aux (list l pos f) us) o ws (pos + length (encode l f)) ks next

  abbrev Stands : Forest → Type 0
  Stands f =
      (us : List Unit) (o : Unit) (ws : List Unit) (pos : ℕ) (ks : List ℕ) (r : ℕ) → pos + length (encode l f) ≤ o.end →
      Around us o ws pos ks r → Over f us o ws pos ks r

  over_none : Stands none
  unfolding list stands encode ranked
  over_none us o ws pos ks r room a = let here : pos + 0 ≡ pos = omega arith in record { same = refl; next = r; around = rw here a }

  -- What is nested in a listed unit, and what is known behind it.
  record Nests (v : Unit) (at : ℕ) (inner : Forest) (us : List Unit) (o : Unit) (ws : List Unit) (ks : List ℕ) (r : ℕ) : Type 0 where
    same : map stand (ranked (v ∷ us) (list l at inner)) ≡ stands (suc (suc (suc (length ws)))) 0 inner
    before : Before v.end (reverse_aux (list l at inner) (v ∷ us))
    counted : Counted (reverse_aux (list l at inner) (v ∷ us)) (map (open_of []) (o ∷ ws)) ks (suc r)

  module _ (v : Unit) (at : ℕ) (low : v.start < at) (us : List Unit) (o : Unit) (ws : List Unit) (ks : List ℕ) (r : ℕ)
      (a : Around us o ws v.start ks r) where
    listed : v.start < o.end → Counted (v ∷ us) (map (open_of []) (o ∷ ws)) ks (suc r)
    listed h =
        inner_counted v us o ws (a.opened v.start (omega arith) h) [] o.end a.nested.2 ks r a.counted

    nests_leaf : at ≤ v.end → v.end ≤ o.end → Nests v at none us o ws ks r
    unfolding list stands ranked
    nests_leaf high room = record {
      same = refl;
      before = (omega arith, before_later us v.start v.end (omega arith) a.before);
      counted = listed (omega arith);
    }

    nests : (inner : Forest) → Stands inner → at + length (encode l inner) ≡ v.end → v.end ≤ o.end →
        (opens v.id ≡ false → inner ≡ none) → Nests v at inner us o ws ks r
    nests inner over-inner end room leaf = go (opens v.id) refl
      where
        go : (b : Bool) → opens v.id ≡ b → Nests v at inner us o ws ks r
        go true e =
            let i =
            over-inner (v ∷ us) v (o ∷ ws) at (r ∷ ks) 0 (omega arith)
            (enter v at low (omega arith) us (o ∷ ws) (λ p from to. a.opened p from (omega arith)) a.before
            (a.nested.0, room, a.nested.2) ks r (listed (omega arith)) e) in
            record { same = i.same; before = rw end at i.around.before; counted = i.around.counted.1 }
        go false e = subst (λ f. Nests v at f us o ws ks r) (sym (leaf e)) (nests_leaf (omega arith) room)

  module _ (id action : ℕ) (text : List ℕ) (inner rest : Forest) (us : List Unit) (o : Unit) (ws : List Unit) (pos : ℕ) (ks : List ℕ) (r : ℕ)
      (room : pos + length (encode l (tree id action text inner rest)) ≤ o.end) (a : Around us o ws pos ks r) where
    abbrev v : Unit
    v = unit_here l pos id action text inner

    abbrev at : ℕ
    at = inner_at l pos text

    long : length (encode l (tree id action text inner rest)) ≡ prefix_of l + (length text + length (encode l inner)) + length (encode l rest)
    long = length_tree l id action text inner rest

    -- Behind the unit and those nested in it,
    behind : Nests v at inner us o ws ks r → Around (reverse_aux (list l at inner) (v ∷ us)) o ws v.end ks (suc r)
    behind n = record {
      opened = λ q from to. rw (passed inner at (v ∷ us) q (omega arith), ends_before v us q from, a.opened q (omega arith) to);
      before = n.before;
      nested = (omega (arith, a.nested.0), omega (arith, long), a.nested.2);
      counted = n.counted;
    }

    -- and behind the trees after it.
    join : Nests v at inner us o ws ks r → Over rest (reverse_aux (list l at inner) (v ∷ us)) o ws v.end ks (suc r) →
        Over (tree id action text inner rest) us o ws pos ks r
    unfolding stands standing
    join n later =
        let stop : pos + length (encode l (tree id action text inner rest)) ≡ v.end + length (encode l rest) = omega (arith, long) in
        let here = a.opened pos (omega arith) (omega (arith, long)) in
        record {
          same = rw (list_tree, stand_parts, n.same, later.same, here, rank_due [] us o ws ks r a.counted);
          next = later.next;
          around = rw (list_tree, reverse_aux-append, stop) later.around;
        }

  over_tree : (id action : ℕ) (text : List ℕ) (inner rest : Forest) → Passes l id action text inner → Stands inner → Stands rest →
      Stands (tree id action text inner rest)
  over_tree id action text inner rest p over-inner over-rest us o ws pos ks r room a =
      let v = unit_here l pos id action text inner in
      let long = length_tree l id action text inner rest in
      let n = nests v (inner_at l pos text) (omega arith) us o ws ks r a inner over-inner (omega arith) (omega arith) p.leaf in
      join id action text inner rest us o ws pos ks r room a n
      (over-rest (reverse_aux (list l (inner_at l pos text) inner) (v ∷ us)) o ws v.end ks (suc r) (omega arith)
      (behind id action text inner rest us o ws pos ks r room a n))

  over : (f : Forest) → Fits l f → Stands f
  over none fit = over_none
  over (tree id action text inner rest) fit =
      over_tree id action text inner rest fit.0 (over inner fit.1) (over rest fit.2)

  -- The root stands in none.
  module _ (id action : ℕ) (text : List ℕ) (inner : Forest) (p : Passes l id action text inner) (fit : Fits l inner) where
    root_inner : map stand (ranked (unit_here l 0 id action text inner ∷ []) (list l (inner_at l 0 text) inner)) ≡ stands 2 0 inner
    unfolding list stands ranked open_at parents_that
    root_inner = go (opens id) refl
      where
        go : (b : Bool) → opens id ≡ b →
            map stand (ranked (unit_here l 0 id action text inner ∷ []) (list l (inner_at l 0 text) inner)) ≡ stands 2 0 inner
        go true e =
            let v = unit_here l 0 id action text inner in
            let at = inner_at l 0 text in
            (over inner fit (v ∷ []) v [] at (0 ∷ []) 0 (omega arith)
            (enter v at (omega arith) (omega arith) [] [] (λ p from to. refl) (record {}) (record {}) [] 0 refl e)).same
        go false e = rw (p.leaf e)

    root_stands : map stand (ranked [] (list l 0 (tree id action text inner none))) ≡ stands 1 0 (tree id action text inner none)
    unfolding stands ranked standing open_at parents_that rank_in
    root_stands = rw (list_one l 0 id action text inner, append-nil) (ap (λ x. (1, 0) ∷ x) root_inner)

  pub tree_stands : (t : Forest) (id : ℕ) → ids t ≡ id ∷ [] → Fits l t → map stand (ranked [] (list l 0 t)) ≡ stands 1 0 t
  unfolding ids
  tree_stands none id e fit = clash cc
  tree_stands (tree i action text inner none) id e fit = root_stands i action text inner fit.0 fit.1
  tree_stands (tree i action text inner (tree j a s f x)) id e fit = clash cc
