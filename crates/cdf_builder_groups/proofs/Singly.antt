-- A whole group that is added, against its units one by one: at any place, over a front of any bytes. Its units write over the front
-- what a builder that was started for the group writes, and the lengths of the units around; so does the whole group.
use Rattle.std.proofs.Common.{ℕ, ◌+◌, ◌-◌, ◌≤◌, ◌≡◌, refl, sym, ap, ap₂, ◌∙◌, true, List, [], ◌∷◌, ◌++◌, map, append-nil, inl, inr, arith, length}
use Rattle.std.proofs.Common.{take, drop, length-drop, take-append-drop, length-take-le}
use Rattle.cdf_unit_table.specs.Ids.{er_group, file_group}
use Rattle.cdf_unit_table.specs.States.{admit, nothing, opens, root_kind}
use Rattle.cdf_unit_table.proofs.Rows.{root_opens, opens_by}
use Rattle.cdf_unit_prefix.specs.Layout.{Layout, layout_of, id_at, prefix_of}
use Rattle.cdf_unit_prefix.specs.declared.Edition.{Edition}
use Rattle.cdf_unit_list.specs.Check.{Verdict}
use Rattle.cdf_unit_list.specs.Units.{listing, after}
use Rattle.cdf_unit_list.specs.declared.Unit.{Unit}
use Rattle.cdf_grammar.specs.Trees.{Forest, none, tree, ids}
use Rattle.cdf_grammar.specs.Published.{Among, Follows, production_of}
use Rattle.cdf_grammar.specs.Encoding.{Bytes, Stream, unit_bytes, Item, item_of, says}
use Rattle.cdf_grammar.specs.Claims.{items_of}
use Rattle.cdf_grammar.proofs.Fits.{through}
use Rattle.cdf_grammar.proofs.Parts.{part_bytes}
use Rattle.cdf_grammar.proofs.Proved.{proved}
use Rattle.cdf_builder_write.specs.Patch.{patch}
use Rattle.cdf_builder_spec.specs.Place.{BuilderPlace, fits}
use Rattle.cdf_builder_spec.specs.Requests.{Request, unit, group, completed, bytes_for, refused, grown}
use Rattle.cdf_builder_spec.specs.Calls.{Reply, Finish, lengths}
use Rattle.cdf_builder_spec.specs.declared.Begun.{Begun}
use Rattle.cdf_builder_spec.proofs.Fitting.{fitting}
use Rattle.cdf_builder_spec.proofs.Nested.{Nested, Written, fitting_nested, outside, outside_written}
use Rattle.cdf_builder_spec.proofs.Lengths.{lengths_none}
use Rattle.cdf_builder_spec.proofs.Joining.{Joins}
use Rattle.cdf_builder_spec.proofs.Replying.{root_place, grown_written, bytes_unit, unit_size, start_zero, start_number_lem, start_done}
use Rattle.cdf_builder_runs.specs.Runs.{root_item, answer, run, AllDone, AllLent}
use Rattle.cdf_builder_runs.specs.Building.{Building, size, first, last, finish, AllZero}
use Rattle.cdf_builder_runs.specs.Telling.{Tells, Whole}
use Rattle.cdf_builder_groups.specs.Claims.{Singly}
use Rattle.cdf_builder_runs.proofs.Shut.{shut_completed}
use Rattle.cdf_builder_runs.proofs.Answers.{answer_fit, answer_called, answer_place, answer_buffer, first_done, run_place}
use Rattle.cdf_builder_runs.proofs.Forward.{in_state, At, Leads, over}
use Rattle.cdf_builder_runs.proofs.Rooms.{admitted_done, run_written}
use Rattle.cdf_builder_runs.proofs.Passed.{GroupPassed, group_passed}
use Rattle.cdf_builder_runs.proofs.Taken.{units_open, units_group, bytes_group}
use Rattle.cdf_builder_runs.proofs.Kept.{front_put, kept_start, kept_settled}
use Rattle.cdf_builder_runs.proofs.Ending.{tells_units}
use Rattle.cdf_builder_runs.proofs.Said.{stream_says}
use Rattle.cdf_builder_runs.proofs.Building.{accepted, builds}
use Rattle.cdf_builder_groups.proofs.Told.{tells_sizes}
use Rattle.cdf_builder_groups.proofs.Levels.{nested_shut}
use Rattle.cdf_builder_groups.proofs.Lengths.{Apart, nested_apart}
use Rattle.cdf_builder_groups.proofs.Over.{lifted, writes_as, Over, over_run}

-- The own data of listed units are bytes of the stream.
items_lent : (l : Layout) (g : List ℕ) → Bytes g → (us : List Unit) → AllLent (map unit (map (item_of l g) us))
unfolding item_of
items_lent l g b [] = record {}
items_lent l g b (u ∷ us) = (part_bytes (u.start + prefix_of l) (after u - (u.start + prefix_of l)) g b, items_lent l g b us)

units_lent : (l : Layout) (g : List ℕ) → Bytes g → AllLent (map unit (items_of l g))
unfolding items_of
units_lent l g b = items_lent l g b (listing l g).units

-- A group has no action and no own data.
only_none : (action : ℕ) → Among action (0 ∷ []) → action ≡ 0
only_none action (inl e) = e
only_none action (inr x) = elim x [ ]

group_blank : (id action : ℕ) (text : List ℕ) (inner : Forest) → Among id (er_group ∷ file_group ∷ []) → Follows id action text inner →
    (action ≡ 0) × (text ≡ [])
unfolding production_of
group_blank id action text inner (inl k) f = (only_none action (rw k at f.acts), rw k at f.says)
group_blank id action text inner (inr (inl k)) f = (only_none action (rw k at f.acts), rw k at f.says)
group_blank id action text inner (inr (inr x)) f = elim x [ ]

says_root : (id : ℕ) (inner : Forest) → says (tree id 0 [] inner none) ≡ root_item id ∷ says inner
unfolding says
says_root id inner = ap (λ (us : List Item). root_item id ∷ us) (append-nil (says inner))

module _ (e : Edition) (a : Reply) (g : List ℕ) (bytes : Bytes g) (begun : a.number ≡ 0)
    (zero : (answer (layout_of e) a (group g)).number ≡ 0) where
  abbrev l : Layout
  l = layout_of e

  abbrev p : BuilderPlace
  p = a.place

  abbrev id : ℕ
  id = id_at l g

  fit : fits l (length a.buffer) p ≡ true
  fit = answer_fit l a (group g) zero

  asked : (refused l p.units (group g) 0 ≡ 0) × (p.written + length (bytes_for l (group g)) ≤ l.limit)
      × (p.written + length (bytes_for l (group g)) ≤ length a.buffer)
  asked = answer_called l a (group g) zero

  whole_size : length (bytes_for l (group g)) ≡ length g
  whole_size = ap length (bytes_group l g)

  passed : GroupPassed l p.units g
  passed = group_passed e p.units g bytes asked.0

  -- The unit that the group joins, and what it is then.
  joins : Joins p.units id
  joins = passed.joins

  abbrev o : Begun
  o = joins.unit

  abbrev had : Begun
  had = in_state o (admit o.state id)

  abbrev around : List Begun
  around = had ∷ joins.outer

  -- The group's tree, and the requests for its units.
  abbrev root : Forest
  root = tree id 0 [] passed.inner none

  stream : Stream l g root
  stream =
      let blank = group_blank id passed.action passed.text passed.inner passed.kind passed.stream.tree.conforms.0 in
      rw (blank.0, blank.1) at passed.stream

  abbrev rest : List Request
  rest = map unit (says passed.inner)

  abbrev units : List Request
  units = unit (root_item id) ∷ rest

  units_are : map unit (items_of l g) ≡ units
  units_are = ap (map unit) (stream_says e g root stream ∙ says_root id passed.inner)

  tells : Tells l root units
  tells = rw (says_root id passed.inner) at (tells_units l root)

  -- A builder that is started for the group, on the rest of the buffer.
  abbrev alone : Building
  alone = record { edition = e; buffer = drop p.written a.buffer; root = id; calls = rest }

  size_is : size alone ≡ length g
  size_is = tells_sizes l root units tells ∙ ap length stream.bytes

  lent : AllLent rest
  lent = let all : AllLent units = rw units_are at (units_lent l g bytes) in all.1

  whole : Whole l units
  whole = (root, stream.tree, tells)

  room : length g ≤ length alone.buffer
  room = omega (arith, length-drop p.written a.buffer, asked.2, whole_size)

  alone_done : AllZero alone
  alone_done =
      (accepted alone lent).1 (([], (root, stream.tree, rw append-nil tells)), omega (arith, size_is, stream.within), omega (arith, size_is, room))

  alone_bytes : (last alone).buffer ≡ g ++ drop (length g) alone.buffer
  alone_bytes =
      let b = builds alone lent alone_done in
      let end = (last alone).buffer in
      let long : (finish alone).length ≡ length g = ap (λ (f : Finish). f.length) (b.finished.1 whole) ∙ size_is in
      let front : take (length g) end ≡ g =
      ap (λ k. take k end) (sym long) ∙ (b.built root stream.tree tells).encoded ∙ stream.bytes in
      let back : drop (length g) end ≡ drop (length g) alone.buffer = rw size_is at b.behind in
      sym (take-append-drop (length g) end) ∙ ap₂ (λ (x y : List ℕ). x ++ y) front back

  -- Over the front its units are admitted and lead to the same unit.
  nested : Nested l (joins.inner ++ (o ∷ joins.outer)) × Written l p.written (joins.inner ++ (o ∷ joins.outer))
  nested = rw joins.parts at (fitting_nested l (length a.buffer) p (fitting l (length a.buffer) p fit))

  at : At p.units o joins.outer
  at = record {
    inside = joins.inner;
    shut = nested_shut l joins.inner o joins.outer nested.0 joins.full;
    are = joins.parts;
  }

  leads : Leads l p units had joins.outer
  unfolding ids through
  leads =
      over l (λ s t q. ap (λ (x : Verdict). x.number) ((proved.streams e).counted s t q)) root stream.tree.conforms units tells p o
      joins.outer at joins.admitted

  each : AllDone l a units
  each = admitted_done l units a begun fit leads.0 (omega (arith, asked.1, size_is, whole_size), omega (arith, asked.2, size_is, whole_size))

  group_written : (grown l p (group g)).written ≡ p.written + length g
  group_written = grown_written l p (group g) ∙ ap (λ (k : ℕ). p.written + k) whole_size

  written : (run l a units).place.written ≡ (answer l a (group g)).place.written
  written = run_written l units a each ∙ rw (size_is, answer_place l a (group g) zero, group_written)

  group_units : (grown l p (group g)).units ≡ around
  group_units = units_group l p o joins.outer g joins.joins

  left : (inner : List Begun) × (completed inner ≡ true) × ((run l a units).place.units ≡ inner ++ (answer l a (group g)).place.units)
  unfolding completed
  left =
      let end = leads.1 in
      let inner = end.inside in
      let units_of : BuilderPlace → List Begun = λ q. q.units in (
        inner,
        rw append-nil at (shut_completed _ inner [] end.shut refl),
        ap units_of (run_place l a units each) ∙ end.are
            ∙ ap (λ os. inner ++ os) (sym (ap units_of (answer_place l a (group g) zero) ∙ group_units)),
      )

  -- The front, and the units around the group in it.
  abbrev front : List ℕ
  front = take p.written a.buffer

  long : length front ≡ p.written
  long = length-take-le p.written a.buffer (fitting l (length a.buffer) p fit).within

  parts : a.buffer ≡ front ++ alone.buffer
  parts = sym (take-append-drop p.written a.buffer)

  apart : Apart l p.written around
  apart =
      nested_apart l p.written (o ∷ joins.outer) (outside l joins.inner o joins.outer nested.0)
      (outside_written l p.written joins.inner o joins.outer nested.0 nested.1)

  here : p.written ≡ p.written + 0
  here = omega arith

  -- The whole group.
  group_bytes : (answer l a (group g)).buffer ≡ lengths l (grown l p (group g)).written around front ++ (g ++ drop (length g) alone.buffer)
  group_bytes =
      answer_buffer l a (group g) zero
      ∙ writes_as p.written around l front long apart front long (λ w. refl) (length g) 0 (grown l p (group g)).written p.written []
      (grown l p (group g)).units (bytes_for l (group g)) alone.buffer a.buffer group_units group_written here parts
      ∙ ap (λ (x : List ℕ). lengths l (grown l p (group g)).written around front ++ x)
      (lengths_none l (length g) _ ∙ rw (bytes_group l g) (front_put g alone.buffer room))

  -- Its first unit, and the start for the group alone.
  started : (first alone).number ≡ 0
  started = first_done l (first alone) rest alone_done

  start_is : first alone ≡ record { number = 0; place = root_place l id; buffer = patch 0 (unit_bytes l id 0 [] []) alone.buffer }
  start_is = start_done l alone.buffer id (sym (start_number_lem l alone.buffer id) ∙ started)

  kind : root_kind id ≡ true
  kind = ((start_zero l (length alone.buffer) id).0 (sym (start_number_lem l alone.buffer id) ∙ started)).0

  root_open : opens id ≡ true
  root_open = opens_by id (nothing id) refl (root_opens id kind)

  first_over : Over p.written around l front long apart (answer l a (unit (root_item id))) (first alone)
  first_over =
      let r = unit (root_item id) in
      let done = first_done l (answer l a r) rest each.1 in
      let top : Begun = record { state = nothing id; start = 0 } in
      let units : (grown l p r).units ≡ lifted p.written around (top ∷ []) =
      units_open l p o joins.outer (root_item id) root_open joins.joins
      ∙ ap {B = List Begun} (λ k. record { state = nothing id; start = k } ∷ around) here in
      let grows : (grown l p r).written ≡ p.written + prefix_of l = omega (arith, grown_written l p r, unit_size l (root_item id)) in
      let settled = rw start_is at (kept_settled l alone.buffer _ _ _ (kept_start l alone.buffer id started)) in
      rw start_is (record {
        units = rw (answer_place l a r done) units;
        written = rw (answer_place l a r done) grows;
        buffer =
            rw (answer_place l a r done)
            (answer_buffer l a r done
            ∙ writes_as p.written around l front long apart front long (λ w. refl) (prefix_of l) 0 (grown l p r).written p.written (top ∷ [])
            (grown l p r).units (bytes_for l r) alone.buffer a.buffer units grows here parts
            ∙ ap (λ (x : List ℕ). lengths l (grown l p r).written around front ++ x) (rw (bytes_unit l (root_item id)) settled));
      })

  same : (run l a units).buffer ≡ (answer l a (group g)).buffer
  unfolding run
  same =
      let end =
      over_run p.written around l front long apart rest (answer l a (unit (root_item id))) (first alone) first_over each.1 alone_done in
      let size : (run l a units).place.written ≡ (grown l p (group g)).written =
      written ∙ ap (λ (q : BuilderPlace). q.written) (answer_place l a (group g) zero) in
      end.buffer ∙ ap₂ (λ (k : ℕ) (x : List ℕ). lengths l k around front ++ x) size alone_bytes ∙ sym group_bytes

  pub singly : Singly l a g
  singly = record {
    each = rw units_are each;
    bytes = rw units_are same;
    written = rw units_are written;
    around = rw units_are left;
  }
