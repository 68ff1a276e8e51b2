-- What every call begins with: 11 where it has no use, then 2 where the place does not fit and is needed.
use Rattle.std.proofs.Common.{ℕ, ◌≤◌, ◌≡◌, refl, sym, ap, ◌∙◌, Bool, true, false, not, cond, ◌||◌, true≢false, List, arith, eq-eqb, ne_eqb, eqb}
use Rattle.std.proofs.Common.{length}
use Rattle.std.specs.Prelude.{Result, Ok, Err}
use Rattle.cdf_refusal.specs.Numbers.{number_of}
use Rattle.cdf_refusal.specs.declared.Fault.{Fault}
use Rattle.cdf_refusal.specs.declared.Refusal.TheVariants.{NoUse, Place}
use Rattle.cdf_unit_prefix.specs.Layout.{Layout}
use Rattle.cdf_unit_data.specs.Standing.{name_row, row_bytes}
use Rattle.cdf_unit_list.specs.Stack.{step}
use Rattle.cdf_reader_spec.specs.Place.{ReaderPlace, is_empty, fits}
use Rattle.cdf_reader_spec.specs.Ranking.{depth_at}
use Rattle.cdf_reader_spec.specs.Calls.{Reply, refuse, move_to, give, stepped, untouched, passed, first_of, call_of, is_start}
use Rattle.cdf_reader_spec.specs.declared.Call.{Call}
use Rattle.cdf_reader_spec.specs.declared.Call.TheVariants.{Start, Next, Skip, GetStream, Previous}
use Rattle.cdf_reader_spec.proofs.Counted.{length_open}
use Rattle.cdf_reader_spec.proofs.Fitting.{fitting}
use Rattle.cdf_reader_spec.proofs.Replying.{next_tests, next_is, previous_tests, passing_tests, skip_is, take_is}
use Rattle.cdf_reader_spec.proofs.Replying.{start_named, next_named, skip_named, take_named, previous_named}
use Rattle.cdf_reader_use.specs.Uses.{may_pass, has_use}
use Rattle.cdf_reader_cursor.specs.Outcomes.{cursor_place, outcome_reply, reply_from, no_cursor}
use Rattle.cdf_reader_cursor.specs.declared.Cursor.{Cursor}
use Rattle.cdf_reader_cursor.specs.declared.Outcome.{Outcome}
use Rattle.cdf_reader_cursor.proofs.Again.{given_is}
use Rattle.cdf_reader_advance.specs.Advancing.{advanced_by}
use Rattle.cdf_reader_advance.proofs.Steady.{advances_by}
use Rattle.cdf_reader_step.specs.Kept.{cursor_kept, Again}

-- A start always has a use.
used : (c : Call) (count : ℕ) (fresh : Bool) (id : ℕ) → has_use c count fresh id ≡ false → is_start c ≡ false
used Start count fresh id e = e
used Next count fresh id e = refl
used Skip count fresh id e = refl
used GetStream count fresh id e = refl
used Previous count fresh id e = refl

abbrev is_previous : Call → Bool
is_previous Start = false
is_previous Next = false
is_previous Skip = false
is_previous GetStream = false
is_previous Previous = true

module _ (p : Cursor) where
  -- The call has something to do at the cursor.
  abbrev pub Use : Call → Bool
  Use c = has_use c p.units.count p.fresh p.last.id

  -- NEXT has where a unit is open.
  pub next_none : p.units.count ≡ 0 → Use Next ≡ false
  next_none e = rw (eq-eqb p.units.count 0 e)

  pub next_some : (p.units.count ≡ 0 → ⊥) → Use Next ≡ true
  next_some e = rw (ne_eqb p.units.count 0 e)

  -- A place is empty exactly if its count is 0.
  empty_is : is_empty (cursor_place p) ≡ eqb p.units.count 0
  unfolding is_empty
  empty_is = rw (length_open p.units.count p.units.top p.units.o1 p.units.o2 p.units.o3)

  -- One that fits has few units.
  pub counts : (l : Layout) (n : ℕ) → fits l n (cursor_place p) ≡ true → (1 ≤ p.units.count) × (p.units.count ≤ 5)
  counts l n e =
      let f = fitting l n (cursor_place p) e in
      let same = length_open p.units.count p.units.top p.units.o1 p.units.o2 p.units.o3 in
      (omega (arith, f.some, same), omega (arith, f.five, same))

  untouched_is : untouched (cursor_place p) ≡ may_pass p.units.count p.fresh p.last.id
  unfolding untouched
  untouched_is = rw empty_is

  module _ (l : Layout) (s : List ℕ) where
    abbrev v : ReaderPlace
    v = cursor_place p

    -- The call may go on with the place.
    abbrev pub ready : Call → Bool
    ready c = is_start c || fits l (length s) v

    -- What it does then.
    abbrev does : Call → Reply
    does Start = first_of l s
    does Next = stepped v (step l s v.units v.position)
    does Skip = move_to (passed v)
    does GetStream = move_to (passed v)
    does Previous = give v

    some_open : (x : Reply) → cond (is_empty v) (refuse 11 0 v) x ≡ cond (not (not (eqb p.units.count 0))) (refuse 11 0 v) x
    some_open x = rw empty_is (go (eqb p.units.count 0))
      where
        go : (b : Bool) → cond b (refuse 11 0 v) x ≡ cond (not (not b)) (refuse 11 0 v) x
        go true = refl
        go false = refl

    asked : (c : Call) → call_of l s v c ≡ cond (not (Use c)) (refuse 11 0 v) (cond (not (ready c)) (refuse 2 0 v) (does c))
    asked Start = start_named l s v
    asked Next = next_named l s v ∙ next_tests l s v ∙ some_open _
    asked Skip = skip_named l s v ∙ skip_is l s v ∙ passing_tests l s v _ ∙ rw untouched_is
    asked GetStream = take_named l s v ∙ take_is l s v ∙ passing_tests l s v _ ∙ rw untouched_is
    asked Previous = previous_named l s v ∙ previous_tests l s v ∙ some_open _

    -- What is promised of the answer to a call.
    abbrev Answers : Call → Result Outcome Fault → Type 0
    Answers c r = (reply_from (cursor_kept c p) r ≡ call_of l s v c) × (c ≡ Previous → Again p r)

    module _ (c : Call) where
      refuses : is_start c ≡ false → (f : Fault) → call_of l s v c ≡ refuse (number_of f.refusal) f.offset v → Answers c (Err f)
      refuses e f due = (rw e (sym due), λ z. tt)

      pub useless : Use c ≡ false → (f : Fault) → f ≡ record { refusal = NoUse; offset = 0 } → Answers c (Err f)
      useless u f is =
          let none = used c p.units.count p.fresh p.last.id u in
          rw is (refuses none (record { refusal = NoUse; offset = 0 }) (asked c ∙ rw u))

      pub unfit : Use c ≡ true → ready c ≡ false → (f : Fault) → f ≡ record { refusal = Place; offset = 0 } → Answers c (Err f)
      unfit u r f is = rw is (refuses (neither (is_start c) r) (record { refusal = Place; offset = 0 }) (asked c ∙ rw (u, r)))
        where
          neither : (b : Bool) → (b || fits l (length s) v) ≡ false → b ≡ false
          neither true e = e
          neither false e = refl

      -- What is no start needs a place that fits.
      pub fit_needed : ready c ≡ true → is_start c ≡ false → fits l (length s) v ≡ true
      fit_needed f e = rw e at f

      -- What the call does is its answer.
      module _ (u : Use c ≡ true) (f : ready c ≡ true) where
        done : call_of l s v c ≡ does c
        done = asked c ∙ rw (u, f)

        other : is_previous c ≡ false → {A : Type 0} → c ≡ Previous → A
        other e z = absurd (true≢false (sym (ap is_previous z) ∙ e))

        started : c ≡ Start → call_of l s v Start ≡ first_of l s
        started e = rw e at done

        stepping : c ≡ Next → call_of l s v Next ≡ stepped v (step l s v.units v.position)
        stepping e = rw e at done

        pub starts : c ≡ Start → (r : Result Outcome Fault) → reply_from no_cursor r ≡ first_of l s → Answers c r
        starts e r is = (rw e (is ∙ sym (started e)), other (rw e))

        -- NEXT is a step at any place, which at one that fits is NEXT.
        pub steps : c ≡ Next → (r : Result Outcome Fault) → reply_from p r ≡ advanced_by (row_bytes name_row) l s v → Answers c r
        steps e r is =
            let fit = fit_needed f (rw e) in
            (rw e (is ∙ advances_by name_row refl l s v fit ∙ next_is l s v fit ∙ sym (stepping e)), other (rw e))

        passes : does c ≡ move_to (passed v) → is_previous c ≡ false → (o : Outcome) → outcome_reply o ≡ move_to (passed v) → Answers c (Ok o)
        passes e no-previous o is = (is ∙ sym (done ∙ e), other no-previous)

        pub skips : c ≡ Skip → (o : Outcome) → outcome_reply o ≡ move_to (passed v) → Answers c (Ok o)
        skips e = passes (rw e) (rw e)

        pub takes : c ≡ GetStream → (o : Outcome) → outcome_reply o ≡ move_to (passed v) → Answers c (Ok o)
        takes e = passes (rw e) (rw e)

        pub again : c ≡ Previous → (depth : ℕ) → depth ≡ depth_at v →
            Answers c (Ok (record { handed = record { unit = p.last; depth = depth; rank = p.ranks.last }; cursor = p }))
        again e depth deep = (given_is p _ refl (sym deep) refl ∙ sym (done ∙ rw e), λ z. refl)
