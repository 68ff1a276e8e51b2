-- What a step by any judge comes to from any cursor, once the units that end at the position are closed.
use Rattle.std.proofs.Common.{ℕ, zero, suc, ◌+◌, ◌-◌, ◌≤◌, ◌<◌, ◌≡◌, refl, sym, ap, ◌∙◌, Bool, true, false, cond, ◌&&◌, List, [], arith, eq-eqb}
use Rattle.std.proofs.Common.{ne_eqb, leb-true, ltb-true, leb, ltb, length, take, drop}
use Rattle.std.proofs.lemmas.Bool.{false≢true}
use Rattle.cdf_unit_table.specs.States.{opens}
use Rattle.cdf_unit_table.proofs.Bools.{both}
use Rattle.cdf_unit_prefix.specs.Layout.{Layout}
use Rattle.cdf_unit_data.specs.Data.{NameBytes}
use Rattle.cdf_unit_judge.specs.Judge.{Judged, Fault, Found}
use Rattle.cdf_unit_list.specs.Stack.{close, Step, done, refused, found, opened, entered, with_state, step_in_with, step_with, step_in_by, step_by}
use Rattle.cdf_unit_list.specs.Units.{after}
use Rattle.cdf_unit_list.specs.declared.Unit.{Unit}
use Rattle.cdf_unit_list.specs.declared.Open.{Open}
use Rattle.cdf_unit_list.specs.declared.Ranked.{Ranked}
use Rattle.cdf_unit_list.proofs.Entering.{unit_from}
use Rattle.cdf_unit_list.proofs.Stepping.{faults, enters, opened_parent, opened_leaf}
use Rattle.cdf_reader_spec.specs.Place.{ReaderPlace}
use Rattle.cdf_reader_spec.specs.Slots.{open_units}
use Rattle.cdf_reader_spec.proofs.Counted.{length_open, split}
use Rattle.cdf_reader_spec.specs.Closing.{unclosed}
use Rattle.cdf_reader_spec.specs.Ranking.{next_rank}
use Rattle.cdf_reader_spec.specs.Calls.{refuse, stepped}
use Rattle.cdf_reader_close.proofs.Levels.{left-ranks}
use Rattle.cdf_reader_close.proofs.Unclosed.{close_unclosed, stops}
use Rattle.cdf_reader_cursor.specs.Outcomes.{cursor_place, outcome_reply}
use Rattle.cdf_reader_cursor.specs.Entering.{entering}
use Rattle.cdf_reader_cursor.specs.declared.Cursor.{Cursor}
use Rattle.cdf_reader_cursor.proofs.Entered.{steps}
use Rattle.cdf_reader_advance.specs.Advancing.{no_step, is_inside, has_bytes, rank_on, has_room, advanced_with, advanced_by}
use Rattle.cdf_reader_advance.proofs.Standing.{Leaves, Following, few}

-- By what closing leaves and what the step is.
pub advanced_with_is : (judge : ℕ → List ℕ → Judged) (s : List ℕ) (p : ReaderPlace) →
    advanced_with judge s p
    ≡ cond (has_bytes (length s) p.position (unclosed p.units p.position) && has_room p (step_with judge s p.units p.position))
    (stepped p (step_with judge s p.units p.position)) (refuse no_step 0 p)
unfolding advanced_with
advanced_with_is judge s p = refl

-- So it is by the bytes that may stand in a name.
pub advanced_is : (w : NameBytes) (l : Layout) (s : List ℕ) (p : ReaderPlace) →
    advanced_by w l s p
    ≡ cond (has_bytes (length s) p.position (unclosed p.units p.position) && has_room p (step_by w l s p.units p.position))
    (stepped p (step_by w l s p.units p.position)) (refuse no_step 0 p)
unfolding advanced_with step_by step_in_by
advanced_is w l s p = refl

-- How many units are open behind a unit that is found.
pub length_opened : (u : Unit) (os : List Open) → length (opened u os) ≡ cond (opens u.id) (suc (length os)) (length os)
length_opened u os = go (opens u.id) refl
  where
    go : (b : Bool) → opens u.id ≡ b → length (opened u os) ≡ cond b (suc (length os)) (length os)
    go true e = ap length (opened_parent u os e).0
    go false e = ap length (opened_leaf u os e).0

-- A step inside the innermost of them.
step_open : (judge : ℕ → List ℕ → Judged) (s : List ℕ) (position count : ℕ) (top o1 o2 o3 : Open) → (count ≡ 0 → ⊥) → (top.end ≡ position → ⊥) →
    step_in_with judge s position (close (open_units count top o1 o2 o3) position)
    ≡ entered position (λ state. open_units count (with_state top state) o1 o2 o3)
    (judge top.state (take (top.end - position) (drop position s)))
unfolding step_in_with close open_units
step_open judge s position zero top o1 o2 o3 some e = absurd (some refl)
step_open judge s position (suc k) top o1 o2 o3 some e = rw (ne_eqb top.end position e)

module _ (judge : ℕ → List ℕ → Judged) (s : List ℕ) (p : Cursor) where
  abbrev v : ReaderPlace
  v = cursor_place p

  -- These are left open, with `top` the innermost.
  module _ (count : ℕ) (top : Open)
      (is : open_units count top p.units.o1 p.units.o2 p.units.o3 ≡ unclosed v.units p.position) where
    abbrev Left : List Open
    Left = open_units count top p.units.o1 p.units.o2 p.units.o3

    abbrev Next : Step
    Next = step_with judge s v.units p.position

    by_close : Next ≡ step_in_with judge s p.position (close Left p.position)
    unfolding step_with
    by_close = rw (close_unclosed p.position v.units, ← is)

    pub leaves : Leaves p count
    leaves = sym (length_open count top p.units.o1 p.units.o2 p.units.o3) ∙ ap length is

    by_left : (os : List Open) → Left ≡ os → (x : Step) → Next ≡ x →
        advanced_with judge s v ≡ cond (has_bytes (length s) p.position os && has_room v x) (stepped v x) (refuse no_step 0 v)
    by_left os e x f = advanced_with_is judge s v ∙ rw (f, ← is, e)

    pub at_end_lem : count ≡ 0 → advanced_with judge s v ≡ refuse 1 0 v
    unfolding step_in_with close open_units has_bytes has_room stepped
    at_end_lem none = by_left [] (rw none) done (by_close ∙ rw none)

    module _ (some : count ≡ 0 → ⊥) where
      some_open : 1 ≤ p.units.count
      some_open = omega (arith, few p count leaves, some)

      pub at_incomplete : top.end ≡ p.position → advanced_with judge s v ≡ refuse 10 top.start v
      unfolding step_in_with close has_bytes has_room stepped
      at_incomplete e =
          let w = split count top p.units.o1 p.units.o2 p.units.o3 some in
          by_left _ w.1 (refused 10 top.start)
          (by_close ∙ rw (w.1, eq-eqb top.end p.position e, stops p.position v.units top w.0 (sym is ∙ w.1) e))
          ∙ rw (eq-eqb top.end p.position e)

      -- Else the unit at the position is judged in what the innermost has left, if that is a part of the bytes.
      module _ (apart : top.end ≡ p.position → ⊥) where
        abbrev Rest : List ℕ
        Rest = take (top.end - p.position) (drop p.position s)

        abbrev Inside : Bool
        Inside = is_inside (length s) p.position top

        inside : Next ≡ entered p.position (λ state. open_units count (with_state top state) p.units.o1 p.units.o2 p.units.o3) (judge top.state Rest)
        inside = by_close ∙ step_open judge s p.position count top p.units.o1 p.units.o2 p.units.o3 some apart

        by_bytes : (x : Step) → Next ≡ x → advanced_with judge s v ≡ cond (Inside && has_room v x) (stepped v x) (refuse no_step 0 v)
        unfolding has_bytes
        by_bytes x f =
            by_left _ (split count top p.units.o1 p.units.o2 p.units.o3 some).1 x f ∙ rw (ne_eqb top.end p.position apart)

        pub outside : Inside ≡ false → advanced_with judge s v ≡ refuse no_step 0 v
        outside e = by_bytes Next refl ∙ rw e

        module _ (lies : Inside ≡ true) where
          pub within : (top.start < p.position) × (p.position < top.end) × (top.end ≤ length s)
          within =
              let a = both (ltb top.start p.position) _ lies in
              let b = both (ltb p.position top.end) (leb top.end (length s)) a.1 in
              (ltb-true top.start p.position a.0, ltb-true p.position top.end b.0, leb-true top.end (length s) b.1)

          pub inside_fault : {n k : ℕ} → judge top.state Rest ≡ Fault n k → advanced_with judge s v ≡ refuse n (p.position + k) v
          unfolding has_room stepped
          inside_fault {n} {k} j = by_bytes (refused n (p.position + k)) (inside ∙ rw j (faults _ _ _ _)) ∙ rw lies

          module _ {id action own len state : ℕ} (j : judge top.state Rest ≡ Found id action own len state) where
            abbrev Unit' : Unit
            Unit' = unit_from p.position id action own len

            abbrev Then : List Open
            Then = open_units count (with_state top state) p.units.o1 p.units.o2 p.units.o3

            abbrev Found' : Step
            Found' = found Unit' (opened Unit' Then) (after Unit')

            -- The tests of the code on the unit that is found.
            module _ (before : ℕ) (follow : suc before ≡ rank_on v) where
              abbrev Room : Bool
              Room = leb (cond (opens id) (suc count) count) 4 && ltb before p.position

              room_is : has_room v Found' ≡ Room
              unfolding has_room
              room_is =
                  rw (← follow, length_opened Unit' Then, length_open count (with_state top state) p.units.o1 p.units.o2 p.units.o3)

              by_room : advanced_with judge s v ≡ cond Room (stepped v Found') (refuse no_step 0 v)
              by_room = by_bytes Found' (inside ∙ rw j (enters _ _ _ _ _ _ _)) ∙ rw (lies, room_is)

              pub no_room : Room ≡ false → advanced_with judge s v ≡ refuse no_step 0 v
              no_room e = by_room ∙ rw e

              module _ (room : Room ≡ true) where
                tests : (cond (opens id) (suc count) count ≤ 4) × (suc before ≤ p.position)
                tests =
                    let w = both (leb (cond (opens id) (suc count) count) 4) (ltb before p.position) room in
                    (leb-true (cond (opens id) (suc count) count) 4 w.0, ltb-true before p.position w.1)

                pub following : length s < 18446744073709551616 → Following p count before
                following word =
                    record { some = some_open; left = leaves; before = follow; low = omega (arith, tests.1, within, word) }

                pub slots : (opens id ≡ true → count ≤ 3) × (count ≤ 4)
                slots = go (opens id) tests.0
                  where
                    go : (b : Bool) → cond b (suc count) count ≤ 4 → (b ≡ true → count ≤ 3) × (count ≤ 4)
                    go true h = (λ e. omega arith, omega arith)
                    go false h = (λ e. absurd (false≢true e), h)

                apart_start : (with_state top state).start ≡ p.position → ⊥
                unfolding with_state
                apart_start e = omega (arith, within)

                -- It is entered.
                pub enters_found : (depth rank : ℕ) → depth ≡ suc count → rank ≡ next_rank v →
                    let h : Ranked = record { unit = Unit'; depth = depth; rank = rank } in
                    outcome_reply (entering p count top h state) ≡ advanced_with judge s v
                enters_found depth rank deep next =
                    steps v p count top _ state (omega arith) slots.0
                    (record {
                      left = left-ranks p.position p.units.count p.units.top p.units.o1 p.units.o2 p.units.o3 p.ranks count leaves;
                      next = sym next;
                      deep = deep;
                      apart = apart_start;
                    })
                    ∙ sym (by_room ∙ rw room)
