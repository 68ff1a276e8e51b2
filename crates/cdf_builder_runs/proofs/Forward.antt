-- The requests that tell of a tree of the published grammar are admitted, and at their end every open unit is complete.
use Rattle.std.proofs.Common.{ℕ, ◌<◌, ◌≡◌, refl, sym, ap, ◌∙◌, Bool, true, false, List, [], ◌∷◌, ◌++◌, append_assoc, append-nil, inl, inr, arith}
use Rattle.cdf_unit_table.specs.Ids.{er_group, file_group}
use Rattle.cdf_unit_table.specs.States.{admit, complete, nothing, opens, root_kind, unit_of}
use Rattle.cdf_unit_table.specs.Heights.{height}
use Rattle.cdf_unit_table.proofs.Heights.{level, admit_lower, opens_lower}
use Rattle.cdf_unit_table.proofs.Rows.{opens_by, root_opens}
use Rattle.cdf_unit_table.proofs.Bools.{clash}
use Rattle.cdf_unit_prefix.specs.Layout.{Layout, layout_of}
use Rattle.cdf_unit_prefix.specs.declared.Edition.{Edition}
use Rattle.cdf_unit_list.specs.Check.{Verdict, check_of}
use Rattle.cdf_grammar.specs.Trees.{Forest, none, tree, ids}
use Rattle.cdf_grammar.specs.Published.{Among, Conforms, Follows, InGrammar}
use Rattle.cdf_grammar.specs.Encoding.{Stream, Item}
use Rattle.cdf_grammar.proofs.Fits.{through, through_none, complete_some, Passes}
use Rattle.cdf_grammar.proofs.Agrees.{fits, root_agrees}
use Rattle.cdf_grammar.proofs.Proved.{proved}
use Rattle.cdf_grammar.proofs.Within.{root_read}
use Rattle.cdf_builder_spec.specs.declared.Begun.{Begun}
use Rattle.cdf_builder_spec.specs.Place.{BuilderPlace}
use Rattle.cdf_builder_spec.specs.Requests.{Request, unit, group, id_of, join_number, advanced, entering, completed, refused, grown}
use Rattle.cdf_builder_runs.specs.Telling.{Tells, Whole, Begins}
use Rattle.cdf_builder_spec.proofs.Replying.{root_place, entering_group}
use Rattle.cdf_builder_runs.specs.Runs.{root_item}
use Rattle.cdf_builder_runs.proofs.Admitted.{Admitted, place_after, placeAfter_append, admitted_append, admitted_front}
use Rattle.cdf_builder_runs.proofs.Shut.{Shut, shut_append, shut_below, shut_completed, joins, joined_on}
use Rattle.cdf_builder_runs.proofs.Asked.{unit_asked, group_asked}

-- An open unit once it is in this state.
abbrev pub in_state : Begun → ℕ → Begun
in_state o state = record { state = state; start = o.start }

-- These open units are o, those around it, and inside it only units that are shut.
pub record At (units : List Begun) (o : Begun) (os : List Begun) : Type 0 where
  pub inside : List Begun
  pub shut : Shut (level (unit_of o.state)) inside
  pub are : units ≡ inside ++ (o ∷ os)

-- A unit that admits no more than lower ones, and is complete, is itself shut.
closed : {units : List Begun} {n o : Begun} {os : List Begun} → At units n (o ∷ os) → complete n.state ≡ true →
    level (unit_of n.state) < level (unit_of o.state) → At units o os
closed {n = n} {o = o} {os = os} a full low =
    let top = level (unit_of o.state) in
    record {
      inside = a.inside ++ (n ∷ []);
      shut = shut_append top a.inside (n ∷ []) (shut_below _ top a.inside (omega arith) a.shut) (full, low, record {});
      are = a.are ∙ sym (append_assoc a.inside (n ∷ []) (o ∷ os));
    }

all_completed : {units : List Begun} {o : Begun} → At units o [] → complete o.state ≡ true → completed units ≡ true
unfolding completed
all_completed {o = o} a full = rw a.are (shut_completed _ a.inside (o ∷ []) a.shut (rw full))

through_stays : (state : ℕ) (cs : List ℕ) → (through state cs ≡ 0 → ⊥) → unit_of (through state cs) ≡ unit_of state
unfolding through
through_stays state [] some = refl
through_stays state (c ∷ cs) some =
    through_stays (admit state c) cs some ∙ (admit_lower state c (λ e. some (rw e (through_none cs)))).stays

module _ (l : Layout) where
  -- The requests are admitted, and lead to such units.
  abbrev pub Leads : BuilderPlace → List Request → Begun → List Begun → Type 0
  Leads p rs o os = Admitted l p rs × At (place_after l p rs).units o os

  on : (p : BuilderPlace) (rs more : List Request) {o n : Begun} {os : List Begun} → Leads p rs o os →
      ((q : BuilderPlace) → At q.units o os → Leads q more n os) → Leads p (rs ++ more) n os
  on p rs more (a, at) then =
      let (b, end) = then (place_after l p rs) at in
      (admitted_append l p rs more a b, rw (placeAfter_append l p rs more) end)

  module _ (p : BuilderPlace) (o : Begun) (os : List Begun) (at : At p.units o os) (id : ℕ) (some : admit o.state id ≡ 0 → ⊥) where
    low : Shut (height id) at.inside
    low = rw (admit_lower o.state id some).alike at.shut

    joined_here : join_number p.units id 0 ≡ 0
    joined_here = rw at.are (joined_on id o os some at.inside low 0)

    grown_here : (r : Request) → id_of l r ≡ id →
        (grown l p r).units ≡ entering p.written r ++ (in_state o (admit o.state id) ∷ os)
    unfolding grown advanced
    grown_here r e = rw (e, at.are, joins id o os some at.inside low)

    -- A request that opens a unit,
    entered_here : (r : Request) → id_of l r ≡ id → {n : Begun} → entering p.written r ≡ n ∷ [] →
        At (grown l p r).units n (in_state o (admit o.state id) ∷ os)
    entered_here r e parent = record { inside = []; shut = record {}; are = grown_here r e ∙ rw parent }

    -- and one that opens none.
    passed_here : (r : Request) → id_of l r ≡ id → refused l p.units r 0 ≡ 0 → entering p.written r ≡ [] →
        Leads p (r ∷ []) (in_state o (admit o.state id)) os
    unfolding place_after
    passed_here r e ok leaf =
        ((ok, record {}), record { inside = []; shut = record {}; are = grown_here r e ∙ rw leaf })

  entering_leaf : (at : ℕ) (u : Item) → opens u.id ≡ false → entering at (unit u) ≡ []
  unfolding entering
  entering_leaf at u e = rw e

  entering_parent : (at : ℕ) (u : Item) → opens u.id ≡ true → entering at (unit u) ≡ record { state = nothing u.id; start = at } ∷ []
  unfolding entering
  entering_parent at u e = rw e

  -- From an open unit that admits the roots of these trees, the requests that tell of them lead to it, once it has had them.
  abbrev pub Goes : Forest → Type 0
  Goes f =
      (rs : List Request) → Tells l f rs → (p : BuilderPlace) (o : Begun) (os : List Begun) → At p.units o os →
      (through o.state (ids f) ≡ 0 → ⊥) → Leads p rs (in_state o (through o.state (ids f))) os

  unit_leads : (id action : ℕ) (text : List ℕ) (inner : Forest) → Follows id action text inner → Passes l id action text inner →
      Goes inner → (within : List Request) → Tells l inner within → (p : BuilderPlace) (o : Begun) (os : List Begun) →
      At p.units o os → (admit o.state id ≡ 0 → ⊥) →
      Leads p (unit (record { id = id; action = action; text = text }) ∷ within) (in_state o (admit o.state id)) os
  unfolding place_after id_of
  unit_leads id action text inner f passes goes within tells p o os at some = go (opens id) refl
    where
      u : Item
      u = record { id = id; action = action; text = text }

      ok : refused l p.units (unit u) 0 ≡ 0
      ok = unit_asked l p.units id action text inner f (joined_here p o os at id some)

      go : (b : Bool) → opens id ≡ b → Leads p (unit u ∷ within) (in_state o (admit o.state id)) os
      go true e =
          let state = through (nothing id) (ids inner) in
          let around = in_state o (admit o.state id) ∷ os in
          let full = passes.full e in
          let entered = entered_here p o os at id some (unit u) refl (entering_parent p.written u e) in
          let (a, end) = goes within tells (grown l p (unit u)) _ around entered (complete_some state full) in
          let w = admit_lower o.state id some in
          let v = opens_lower id e in
          let same = ap level (through_stays (nothing id) (ids inner) (complete_some state full) ∙ v.own) in
          ((ok, a), closed end full (omega (arith, same, v.lower, w.alike, ap level w.stays)))
      go false e =
          let alone : within ≡ [] = rw (passes.leaf e) at tells in
          rw alone (passed_here p o os at id some (unit u) refl ok (entering_leaf p.written u e))

  -- A start with this id and these requests are admitted, and then every open unit is complete.
  abbrev pub Finished : ℕ → List Request → Type 0
  Finished id rs =
      (root_kind id ≡ true) × Admitted l (root_place l id) rs × (completed (place_after l (root_place l id) rs).units ≡ true)

  module _ (checked : (g : List ℕ) (t : Forest) → Stream l g t → (check_of l g).number ≡ 0) where
    group_leads : (id action : ℕ) (text : List ℕ) (inner : Forest) (g : List ℕ) → Stream l g (tree id action text inner none) →
        Among id (er_group ∷ file_group ∷ []) → (p : BuilderPlace) (o : Begun) (os : List Begun) → At p.units o os →
        (admit o.state id ≡ 0 → ⊥) → Leads p (group g ∷ []) (in_state o (admit o.state id)) os
    unfolding id_of
    group_leads id action text inner g s kind p o os at some =
        let is = root_read l g id action text inner s in
        let ok = group_asked l p.units g (checked g _ s) id is kind (joined_here p o os at id some) in
        passed_here p o os at id some (group g) is ok (entering_group p.written g)

    over_tree : (id action : ℕ) (text : List ℕ) (inner rest : Forest) → Follows id action text inner → Passes l id action text inner →
        Goes inner → Goes rest → Goes (tree id action text inner rest)
    unfolding ids through
    over_tree id action text inner rest f passes over-inner over-rest rs tells p o os at some = go tells
      where
        state : ℕ
        state = admit o.state id

        may : state ≡ 0 → ⊥
        may e = some (ap (λ s. through s (ids rest)) e ∙ through_none (ids rest))

        then : (first after : List Request) → Tells l rest after → Leads p first (in_state o state) os →
            Leads p (first ++ after) (in_state o (through state (ids rest))) os
        then first after told led = on p first after led (λ q here. over-rest after told q (in_state o state) os here some)

        go : Tells l (tree id action text inner rest) rs → Leads p rs (in_state o (through state (ids rest))) os
        go (inl (within, after, e, told, later)) =
            let led = unit_leads id action text inner f passes over-inner within told p o os at may in
            rw e (then (unit (record { id = id; action = action; text = text }) ∷ within) after later led)
        go (inr (g, after, e, kind, s, later)) =
            rw e (then (group g ∷ []) after later (group_leads id action text inner g s kind p o os at may))

    pub over : (f : Forest) → Conforms f → Goes f
    unfolding ids through place_after
    over none c = λ rs tells p o os at some. rw tells (record {}, at)
    over (tree id action text inner rest) c =
        over_tree id action text inner rest c.0 (fits l (tree id action text inner rest) c).0 (over inner c.1) (over rest c.2)

    root_leads : (id action : ℕ) (text : List ℕ) (inner : Forest) → root_kind id ≡ true → Conforms (tree id action text inner none) →
        (rs : List Request) → Tells l inner rs → Finished id rs
    root_leads id action text inner is c rs told =
        let full = (fits l (tree id action text inner none) c).0.full (opens_by id (nothing id) refl (root_opens id is)) in
        let root : Begun = record { state = nothing id; start = 0 } in
        let at : At (root ∷ []) root [] = record { inside = []; shut = record {}; are = refl } in
        let (a, end) = over inner c.1 rs told (root_place l id) root [] at (complete_some _ full) in
        (is, a, all_completed end full)

    tree_leads : (t : Forest) → InGrammar t → (id : ℕ) (rs : List Request) → Tells l t (unit (root_item id) ∷ rs) → Finished id rs
    unfolding ids
    tree_leads none g id rs told = clash cc
    tree_leads (tree i action text inner none) g id rs (inl (within, after, e, told, later)) =
        let (kind, one, root) = (root_agrees (tree i action text inner none)).0 g.root in
        let item : root_item id ≡ record { id = i; action = action; text = text } = cc in
        let same : id ≡ i = ap (λ (u : Item). u.id) item in
        let only : kind ≡ i = cc in
        let is : root_kind i ≡ true = rw only at root in
        let all : rs ≡ within = cc (append-nil within) in
        rw (same, all) (root_leads i action text inner is g.conforms within told)
    tree_leads (tree i action text inner (tree j a x f h)) g id rs told =
        let (kind, one, root) = (root_agrees (tree i action text inner (tree j a x f h))).0 g.root in
        clash cc
    tree_leads (tree i action text inner none) g id rs (inr (b, after, e, kind, s, later)) =
        clash cc

pub forward : (e : Edition) (id : ℕ) (rs : List Request) → Whole (layout_of e) (unit (root_item id) ∷ rs) →
    Finished (layout_of e) id rs
forward e id rs (t, g, told) =
    tree_leads (layout_of e) (λ s t p. ap (λ (a : Verdict). a.number) ((proved.streams e).counted s t p)) t g id rs told

pub begins_admitted : (e : Edition) (id : ℕ) (rs : List Request) → Begins (layout_of e) (unit (root_item id) ∷ rs) →
    (root_kind id ≡ true) × Admitted (layout_of e) (root_place (layout_of e) id) rs
begins_admitted e id rs (more, whole) =
    let w = forward e id (rs ++ more) whole in
    (w.0, admitted_front (layout_of e) (root_place (layout_of e) id) rs more w.1)
