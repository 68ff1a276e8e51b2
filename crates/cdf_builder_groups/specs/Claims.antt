-- What ADD_STREAM comes to (01, "Builder"): a group that is added whole stands as one that is added unit by unit. The term of this
-- record stands in proofs/Proved.
use Rattle.std.specs.Prelude.{ℕ, ◌+◌, ◌≡◌, true, List, ◌∷◌, ◌++◌, map, take}
use Rattle.cdf_unit_table.specs.Ids.{known, call}
use Rattle.cdf_unit_prefix.specs.Layout.{Layout, layout_of, id_at}
use Rattle.cdf_unit_prefix.specs.declared.Edition.{Edition}
use Rattle.cdf_unit_list.specs.Check.{check_of}
use Rattle.cdf_unit_list.specs.Units.{listing}
use Rattle.cdf_unit_list.specs.declared.Unit.{Unit}
use Rattle.cdf_grammar.specs.Encoding.{Bytes, item_of}
use Rattle.cdf_grammar.specs.Claims.{items_of}
use Rattle.cdf_reader_spec.specs.Calls.{is_group}
use Rattle.cdf_builder_spec.specs.Requests.{Request, unit, group, completed}
use Rattle.cdf_builder_spec.specs.Calls.{Reply}
use Rattle.cdf_builder_spec.specs.declared.Begun.{Begun}
use Rattle.cdf_builder_runs.specs.Runs.{answer, run, AllDone, requested, AllLent}
use Rattle.cdf_builder_runs.specs.Building.{Building, and_then, layout, asked, last, finish, AllZero}

-- After the answer `a` the group may as well be added by a call for each of its units.
pub record Singly (l : Layout) (a : Reply) (g : List ℕ) : Type 0 where
  -- They all answer 0,
  pub each : AllDone l a (map unit (items_of l g))
  -- write the same bytes,
  pub bytes : (run l a (map unit (items_of l g))).buffer ≡ (answer l a (group g)).buffer
  -- as many,
  pub written : (run l a (map unit (items_of l g))).place.written ≡ (answer l a (group g)).place.written
  -- and leave open what is open after the whole group, with units of the group inside, which are complete.
  pub around :
      (inner : List Begun) × (completed inner ≡ true) × ((run l a (map unit (items_of l g))).place.units ≡ inner ++ (answer l a (group g)).place.units)

-- A known unit other than a call, or the bytes of a group that the check accepts.
abbrev pub NoCall : Layout → Request → Type 0
NoCall l (unit u) = (known u.id ≡ true) × (u.id ≡ call → ⊥)
NoCall l (group g) = ((check_of l g).number ≡ 0) × (is_group (id_at l g) ≡ true)

-- A unit that stands so many bytes further.
unfoldable pub moved_by : ℕ → Unit → Unit
moved_by base u = record { id = u.id; action = u.action; start = base + u.start; own = base + u.own; end = base + u.end }

pub record Claims : Type 0 where
  -- Wherever a whole group is added, its units may be: at any place, on any buffer.
  pub singly : (e : Edition) (a : Reply) (g : List ℕ) → Bytes g → a.number ≡ 0 → (answer (layout_of e) a (group g)).number ≡ 0 →
      Singly (layout_of e) a g
  -- But a whole group is closed: only a call can come next. Any other unit gets 7, and so does a second group.
  pub closes : (l : Layout) (a : Reply) (g : List ℕ) → (answer l a (group g)).number ≡ 0 → (r : Request) → NoCall l r →
      (answer l (answer l a (group g)) r).number ≡ 7
  -- In the finished stream the group's units stand as in the group, moved by what was written before it: between units that say
  -- what was asked for before it, and units that say what was asked for after it.
  pub moved : (b : Building) (g : List ℕ) (ys : List Request) (c : Building) → c ≡ and_then b (group g ∷ ys) → AllLent c.calls → AllZero c →
      (finish c).number ≡ 0 → (front : List ℕ) → front ≡ take (finish c).length (last c).buffer →
      (before : List Unit) × (after : List Unit)
      × ((listing (layout b) front).units ≡ before ++ (map (moved_by (last b).place.written) (listing (layout b) g).units ++ after))
      × (map (item_of (layout b) front) before ≡ requested (layout b) (asked b))
      × (map (item_of (layout b) front) after ≡ requested (layout b) ys)
