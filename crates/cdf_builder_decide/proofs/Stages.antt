-- What is decided of a request, stage by stage.
use Rattle.std.proofs.Common.{ℕ, ◌+◌, ◌≤◌, ◌<◌, ◌≡◌, refl, sym, ap, ◌∙◌, Bool, true, false, cond, not, List, [], ◌∷◌, arith, ne_eqb, eqb, length}
use Rattle.std.proofs.lemmas.Bool.{not-false}
use Rattle.cdf_unit_table.specs.Ids.{known, action_allowed}
use Rattle.cdf_unit_table.specs.States.{nothing, opens}
use Rattle.std.specs.Prelude.{Some, None}
use Rattle.cdf_unit_table.proofs.Bools.{clash, past}
use Rattle.cdf_unit_prefix.specs.Layout.{Layout, layout_of, prefix_of, id_at}
use Rattle.cdf_unit_prefix.specs.declared.Edition.{Edition}
use Rattle.cdf_unit_prefix.specs.declared.Edition.TheVariants.{First, Second}
use Rattle.cdf_grammar.specs.Encoding.{Item}
use Rattle.cdf_builder_spec.specs.Place.{BuilderPlace, fits}
use Rattle.cdf_builder_spec.specs.Requests.{Request, unit, group, id_of, bytes_for, joining, ending, completed, join_number, right_data, accepted_group}
use Rattle.cdf_builder_spec.specs.Requests.{refused, advanced, entering, grown}
use Rattle.cdf_builder_spec.specs.Calls.{Decision, room, call_number, decide_of}
use Rattle.cdf_builder_spec.specs.declared.Begun.{Begun}
use Rattle.cdf_builder_spec.proofs.Fitting.{fitting}
use Rattle.cdf_builder_spec.proofs.Joining.{joined_is}
use Rattle.cdf_builder_spec.proofs.Replying.{call_fitting, unit_size}
use Rattle.cdf_builder_faults.specs.Parts.{own_fault, group_of}
use Rattle.cdf_reader_spec.proofs.Counted.{length_held}
use Rattle.cdf_builder_spec.specs.Slots.{no_begun, units, placed}
use Rattle.cdf_builder_decide.specs.Grown.{grown_by, growing}
use Rattle.cdf_builder_spec.specs.declared.Parts.{Parts}

-- A number that is not 0, or what is asked next.
abbrev pub or_else : ℕ → ℕ → ℕ
or_else k next = cond (eqb k 0) next k

-- Two tests with numbers that are not 0.
two_tests : (m n next : ℕ) → eqb m 0 ≡ false → eqb n 0 ≡ false → (a b : Bool) →
    cond a m (cond b n next) ≡ or_else (cond a m (cond b n 0)) next
two_tests m n next d e true b = rw d
two_tests m n next d e false true = rw e
two_tests m n next d e false false = refl

joined_next : (os : List Begun) (id next : ℕ) → join_number os id next ≡ or_else (join_number os id 0) next
unfolding join_number
joined_next os id next = two_tests 7 10 next refl refl (eqb (length (joining id os)) 0) (not (completed (ending id os)))

module _ (l : Layout) (n : ℕ) (p : BuilderPlace) (r : Request) where
  pub decided : (k : ℕ) → call_number l n p r ≡ k → decide_of l n p r ≡ record { number = k; place = cond (eqb k 0) (grown l p r) p }
  unfolding decide_of
  decided k e = rw e

  pub declined : (k : ℕ) → (k ≡ 0 → ⊥) → call_number l n p r ≡ k → decide_of l n p r ≡ record { number = k; place = p }
  declined k some e = decided k e ∙ rw (ne_eqb k 0 some)

  -- Where there is a place, no rule was broken.
  pub decided_done : (q : Parts) → record { number = 0; place = placed q } ≡ decide_of l n p r → call_number l n p r ≡ 0
  decided_done q d = sym (ap (λ (x : Decision). x.number) (d ∙ decided _ refl))

  pub unfit : fits l n p ≡ false → call_number l n p r ≡ 2
  unfolding call_number
  unfit e = rw e

-- NEXT.
module _ (l : Layout) (n : ℕ) (p : BuilderPlace) (u : Item) (f : fits l n p ≡ true) where
  abbrev Number : ℕ
  Number = call_number l n p (unit u)

  pub unknown : known u.id ≡ false → Number ≡ 6
  unfolding refused
  unknown e = call_fitting l n p (unit u) f ∙ rw e

  abbrev Room : ℕ
  Room = room l n (p.written + length (bytes_for l (unit u)))

  module _ (k : known u.id ≡ true) where
    pub by_faults : Number ≡ or_else (join_number p.units u.id 0) (or_else (own_fault u.id u.action u.text) Room)
    unfolding refused own_fault
    by_faults =
        call_fitting l n p (unit u) f ∙ rw k (joined_next p.units u.id _)
        ∙ ap (or_else (join_number p.units u.id 0))
        (two_tests 8 9 Room refl refl (not (action_allowed u.id u.action)) (not (right_data u.id u.text)))

    pub not_joined : (m : ℕ) → m ≡ join_number p.units u.id 0 → (m ≡ 0 → ⊥) → Number ≡ m
    not_joined m is some = by_faults ∙ rw (← is, ne_eqb m 0 some)

    module _ (j : join_number p.units u.id 0 ≡ 0) where
      pub wrong : (m : ℕ) → m ≡ own_fault u.id u.action u.text → (m ≡ 0 → ⊥) → Number ≡ m
      wrong m is some = by_faults ∙ rw (j, ← is, ne_eqb m 0 some)

      pub right : own_fault u.id u.action u.text ≡ 0 → Number ≡ Room
      right e = by_faults ∙ rw (j, e)

-- ADD_STREAM.
group_some : (l : Layout) (g : List ℕ) (id : ℕ) → Some id ≡ group_of l g → (accepted_group l g ≡ true) × (id ≡ id_at l g)
unfolding group_of
group_some l g id is = by (accepted_group l g) is
  where
    by : (b : Bool) → Some id ≡ cond b (Some (id_at l g)) None → (b ≡ true) × (id ≡ id_at l g)
    by true e = let same : id ≡ id_at l g = cc in (refl, same)
    by false e = clash cc

group_none : (l : Layout) (g : List ℕ) → None ≡ group_of l g → accepted_group l g ≡ false
unfolding group_of
group_none l g is = by (accepted_group l g) is
  where
    by : (b : Bool) → None ≡ cond b (Some (id_at l g)) None → b ≡ false
    by true e = clash cc
    by false e = refl

module _ (l : Layout) (n : ℕ) (p : BuilderPlace) (g : List ℕ) (f : fits l n p ≡ true) where
  abbrev GroupNumber : ℕ
  GroupNumber = call_number l n p (group g)

  pub no_group : None ≡ group_of l g → GroupNumber ≡ 14
  unfolding refused
  no_group e = call_fitting l n p (group g) f ∙ rw (group_none l g e)

  module _ (id : ℕ) (is : Some id ≡ group_of l g) where
    by_joined : GroupNumber ≡ or_else (join_number p.units id 0) (room l n (p.written + length g))
    unfolding refused bytes_for
    by_joined =
        let w = group_some l g id is in
        call_fitting l n p (group g) f ∙ rw (w.0, ← w.1) (joined_next p.units id _)

    pub group_not_joined : (m : ℕ) → m ≡ join_number p.units id 0 → (m ≡ 0 → ⊥) → GroupNumber ≡ m
    group_not_joined m e other = by_joined ∙ rw (← e, ne_eqb m 0 other)

    pub group_joined : join_number p.units id 0 ≡ 0 → GroupNumber ≡ room l n (p.written + length g)
    group_joined e = by_joined ∙ rw e

entered_as : (b : Bool) (os : List Begun) → cond (not b) os [] ≡ cond b [] os
entered_as true os = refl
entered_as false os = refl

-- A request whose own rules are kept: its size may be added, its number is that of the room, and these units are left open.
pub record Grows (l : Layout) (n : ℕ) (p : Parts) (r : Request) (count : ℕ) (top : Begun) (size first : ℕ) : Type 0 where
  pub sum : p.written + size < 18446744073709551616
  pub number : call_number l n (placed p) r ≡ room l n (p.written + size)
  pub place : grown l (placed p) r ≡ grown_by p count top size first
  pub some : 1 ≤ count

module _ (l : Layout) (n : ℕ) (p : Parts) (count : ℕ) (top : Begun) where
  pub grows : (r : Request) (size first : ℕ) → Grows l n p r count top size first →
      growing l n p count top size first ≡ decide_of l n (placed p) r
  grows r size first g = sym (decided l n (placed p) r _ g.number ∙ rw g.place)

  module _ (id : ℕ) (left : units count top p.units.o1 p.units.o2 p.units.o3 ≡ advanced id (joining id (placed p).units)) where
    -- An id that is joined leaves a unit open.
    pub left_some : join_number (placed p).units id 0 ≡ 0 → 1 ≤ count
    unfolding advanced
    left_some j =
        let w = (joined_is (placed p).units id 0 j).0 in
        omega (arith, ap length (left ∙ ap (advanced id) w.joins), length_held no_begun count top p.units.o1 p.units.o2 p.units.o3)

    -- The place with a unit more.
    pub unit_place : (action : ℕ) (text : List ℕ) (size : ℕ) → size ≡ prefix_of l + length text → (first : ℕ) → first ≡ nothing id →
        grown l (placed p) (unit (record { id = id; action = action; text = text })) ≡ grown_by p count top size first
    unfolding grown id_of entering opens
    unit_place action text size e first is =
        let s = e ∙ sym (unit_size l (record { id = id; action = action; text = text })) in
        rw (← s, ← left, ← is, entered_as (eqb first 0) (record { state = first; start = p.written } ∷ []))

  module _ (f : fits l n (placed p) ≡ true) (id : ℕ) (j : join_number (placed p).units id 0 ≡ 0)
      (left : units count top p.units.o1 p.units.o2 p.units.o3 ≡ advanced id (joining id (placed p).units)) where
    pub unit_grows : (action : ℕ) (text : List ℕ) → known id ≡ true → own_fault id action text ≡ 0 →
        (size : ℕ) → p.written + size < 18446744073709551616 → size ≡ prefix_of l + length text → (first : ℕ) → first ≡ nothing id →
        Grows l n p (unit (record { id = id; action = action; text = text })) count top size first
    unit_grows action text k o size sum e first is =
        let u : Item = record { id = id; action = action; text = text } in
        let s = e ∙ sym (unit_size l u) in
        record {
          sum = sum;
          number = right l n (placed p) u f k j o ∙ rw (← s);
          place = unit_place id left action text size e first is;
          some = left_some id left j;
        }

    pub group_grows : (g : List ℕ) → Some id ≡ group_of l g → p.written + length g < 18446744073709551616 →
        Grows l n p (group g) count top (length g) 0
    unfolding grown id_of bytes_for entering
    group_grows g is sum =
        let w = group_some l g id is in
        record {
          sum = sum;
          number = group_joined l n (placed p) g f id is j;
          place = rw (← w.1, ← left);
          some = left_some id left j;
        }

-- A place that fits has written few bytes, so that a size may be added.
pub sum_fits : (e : Edition) (n : ℕ) (p : BuilderPlace) (size : ℕ) → fits (layout_of e) n p ≡ true → size < 9223372036854775817 →
    p.written + size < 18446744073709551616
sum_fits e n p size f small = omega (arith, (fitting (layout_of e) n p f).limit, most e)
  where
    most : (e : Edition) → (layout_of e).limit ≤ 16777215
    most First = omega arith
    most Second = omega arith

-- An action that is decided with 0 is allowed, and its id is known.
pub allowed : (l : Layout) (n : ℕ) (p : BuilderPlace) (u : Item) → call_number l n p (unit u) ≡ 0 →
    (known u.id ≡ true) × (action_allowed u.id u.action ≡ true)
unfolding call_number refused join_number
allowed l n p u e =
    let a = past (not (fits l n p)) 2 _ (λ z. omega arith) e in
    let b = past (not (known u.id)) 6 _ (λ z. omega arith) a.1 in
    let c = past (eqb (length (joining u.id p.units)) 0) 7 _ (λ z. omega arith) b.1 in
    let d = past (not (completed (ending u.id p.units))) 10 _ (λ z. omega arith) c.1 in
    let f = past (not (action_allowed u.id u.action)) 8 _ (λ z. omega arith) d.1 in
    (not-false (known u.id) b.0, not-false (action_allowed u.id u.action) f.0)
