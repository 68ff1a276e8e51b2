-- A call answers as the plain reader does, and leaves a place that belongs to the plain reader's state.
use Rattle.std.proofs.Common.{ℕ, ◌≤◌, ◌≡◌, refl, sym, ap, ◌∙◌, Bool, true, false, not, cond, ◌&&◌, List, [], ◌∷◌, ◌++◌, arith, ne_eqb, eqb, length}
use Rattle.std.proofs.lemmas.Bool.{false≢true}
use mathlib.Core.Bool.{and-false, and_assoc, and_self}
use mathlib.Core.List.{reverse_aux, cons≢nil}
use Rattle.cdf_unit_table.specs.States.{opens}
use Rattle.cdf_unit_table.proofs.Bools.{both, clash}
use Rattle.cdf_unit_prefix.specs.Layout.{Layout}
use Rattle.cdf_unit_list.specs.Units.{End, ended}
use Rattle.cdf_unit_list.specs.Ranks.{standing, ranked}
use Rattle.cdf_unit_list.specs.Stack.{Step, step}
use Rattle.cdf_unit_list.specs.declared.Unit.{Unit}
use Rattle.cdf_unit_list.specs.declared.Ranked.{Ranked}
use Rattle.cdf_unit_list.proofs.Few.{Further, unit_further, step_further}
use Rattle.cdf_grammar.proofs.Items.{EachUnit}
use Rattle.cdf_reader_spec.specs.Place.{ReaderPlace, is_empty, fits}
use Rattle.cdf_reader_spec.specs.Ranking.{handed_at}
use Rattle.cdf_reader_spec.specs.Calls.{Reply, Part, empty_place, refuse, move_to, place_at, stepped, untouched, passed, passing, is_group, no_part}
use Rattle.cdf_reader_spec.specs.Calls.{first_of, next_of, skip_of, take_of, part_of, previous_of, call_of, part_taken}
use Rattle.cdf_reader_spec.proofs.Fitting.{fitting}
use Rattle.cdf_reader_spec.proofs.Replying.{start as start_step, first_is, next_is}
use Rattle.cdf_reader_runs.proofs.Around.{lies}
use Rattle.cdf_reader_runs.proofs.Keeps.{Keeps, first_keeps, next_keeps}
use Rattle.cdf_reader_runs.proofs.Steps.{Run, ends, breaks, hands}
use Rattle.cdf_reader_runs.proofs.Looping.{Behind, Goes, goes as goes_on, leads, rank_due}
use Rattle.cdf_reader_spec.specs.declared.Call.{Call}
use Rattle.cdf_reader_spec.specs.declared.Call.TheVariants.{Start, Next, Skip, GetStream, Previous}
use Rattle.cdf_reader_plain.specs.Calls.{handing}
use Rattle.cdf_reader_plain.specs.Plain.{State, fresh_at, passed_by, Turn, turn, starting_at, followers, hand_out, span_of, plain_answer}
use Rattle.cdf_reader_plain.proofs.Groups.{group_opens}
use Rattle.cdf_reader_spec.proofs.Telling.{handed_passed}
use Rattle.cdf_reader_spec.proofs.Replying.{passing_tests, skip_is, take_is, part_is}
use Rattle.cdf_reader_plain.proofs.Passing.{top, passed_fits, previous_is}
use Rattle.cdf_reader_plain.proofs.Later.{starts_before, further_on, run_past, past_later}
use Rattle.cdf_reader_plain.proofs.Skipped.{past_goes, split_ranks, passed_closes}
use Rattle.cdf_reader_plain.proofs.Equations.{telling, pass, start_call, next_call, skip_call, take_call, previous_call}
use Rattle.cdf_reader_plain.proofs.Equations.{start_turn, next_turn, skip_turn, take_turn, previous_turn}

-- What holds of all units holds of those behind some of them.
each_later : (P : Unit → Type 0) (us vs : List Unit) → EachUnit P (reverse_aux us vs) → EachUnit P vs
each_later P [] vs h = h
each_later P (u ∷ us) vs h = (each_later P us (u ∷ vs) h).1

-- Of no units none is ranked.
none_ranked : ranked [] [] ≡ []
unfolding ranked
none_ranked = refl

-- The test of an untouched unit; to unfold it would unfold the states too.
untouched_tests : (p : ReaderPlace) → untouched p ≡ (not (is_empty p) && (p.fresh && opens p.last.id))
unfolding untouched
untouched_tests p = refl

-- The unit list is `first` and the `rest`, and P a property of each unit.
module _ (l : Layout) (s : List ℕ) (first : Ranked) (rest : List Ranked) (P : Unit → Type 0) where
  abbrev all : List Ranked
  all = first ∷ rest

  -- These units, with depth and rank, are the listed ones from a position on, behind those before, the last one first.
  pub record Ahead (pos : ℕ) (us : List Ranked) : Type 0 where
    pub before : List Unit
    pub units : List Unit
    pub are : us ≡ ranked before units
    pub same : (at : ℕ) → pos ≤ at → starting_at at all ≡ starting_at at us
    pub each : EachUnit P units

  -- The last unit of a place is the last of those before.
  pub record Latest (u : Unit) (before : List Unit) (p : ReaderPlace) : Type 0 where
    pub earlier : List Unit
    pub is : before ≡ u ∷ earlier
    pub behind : Behind l s u earlier p

  -- A place belongs to a state of the plain reader: its last unit is the state's, with depth and rank, and a run of steps from it finds what
  -- follows that one, ranked as in the list, and then the end.
  pub record Belongs (p : ReaderPlace) (st : State) : Type 0 where
    pub fit : fits l (length s) p ≡ true
    pub last : handed_at p ≡ st.unit
    pub flag : p.fresh ≡ (st.fresh && opens st.unit.unit.id)
    pub here : P st.unit.unit
    pub ahead : Ahead p.position (followers all st)
    pub run : Run l s (step l s p.units p.position) ahead.units ended
    pub goes : Goes l s ahead.before p (step l s p.units p.position)
    pub latest : st.fresh ≡ true → Latest st.unit.unit ahead.before p

  -- A reply and a turn of the plain reader tell the same, and the place belongs to the state.
  pub record Same (r : Reply) (part : Part) (t : Turn) : Type 0 where
    pub told : telling r part ≡ t.told
    pub place : Belongs r.place t.state

  -- A step from a position on hands out the first of the units there; where there is none, place and state stay.
  handed : {x : Step} {vs : List Unit} {e : End} → Run l s x vs e → e ≡ ended → (pos : ℕ) → Further l s pos x →
      (q : ReaderPlace) → Keeps l s q x → (before : List Unit) → Goes l s before q x →
      ((at : ℕ) → pos ≤ at → starting_at at all ≡ starting_at at (ranked before vs)) → EachUnit P vs → (st : State) → (vs ≡ [] → Belongs q st) →
      Same (stepped q x) no_part (hand_out st (ranked before vs))
  unfolding stepped hand_out followers ranked standing
  handed ends end pos far q keeps before goes same each st stays = record { told = refl; place = stays refl }
  handed breaks end pos far q keeps before goes same each st stays = clash cc
  handed (hands {u = u} {os = os} {pos = later} {us = us} run) end pos far q keeps before goes same each st stays =
      let b = leads l s before q u os later goes keeps in
      let next = place_at q u os later in
      record {
        told = rw b.handed;
        place = record {
          fit = keeps;
          last = b.handed;
          flag = refl;
          here = each.0;
          ahead = record {
            before = u ∷ before;
            units = us;
            are = refl;
            same = λ to h. same to (omega arith) ∙ starts_before to (standing before u) (ranked (u ∷ before) us) (omega arith);
            each = each.1;
          };
          run = rw end at run;
          goes = goes_on l s (u ∷ before) next (step l s os later) (b, refl);
          latest = λ new. record { earlier = before; is = refl; behind = b };
        };
      }

  hand_first : (st : State) → hand_out st all ≡ turn (handing first) (fresh_at first rest)
  unfolding hand_out
  hand_first st = refl

  -- A call agrees by what it is in both readers.
  of_made : (p : ReaderPlace) (st : State) (c : Call) {r : Reply} {part : Part} {t : Turn} →
      (call_of l s p c ≡ r) × (part_taken l s p c ≡ part) → plain_answer first rest st c ≡ t → Same r part t →
      Same (call_of l s p c) (part_taken l s p c) (plain_answer first rest st c)
  of_made p st c asks turned same = rw (asks.0, asks.1, turned) same

  -- The listed units.
  module _ (units : List Unit) (are : all ≡ ranked [] units) (each : EachUnit P units) (run : Run l s (start_step l s) units ended) where
    -- A start hands out the first of all units, whatever was before.
    pub start_same : Same (first_of l s) no_part (turn (handing first) (fresh_at first rest))
    start_same =
        let st = fresh_at first rest in
        let told = handed run refl 0 (unit_further l s 0 true 0 s (λ state. []) (omega arith))
        empty_place (first_keeps l s) [] (goes_on l s [] empty_place (start_step l s) (refl, refl)) (λ at h. ap (starting_at at) are) each st
        (λ z. absurd (cons≢nil (are ∙ ap (ranked []) z ∙ none_ranked))) in
        rw first_is (rw (ap (hand_out st) (sym are) ∙ hand_first st) at told)

    module _ (p : ReaderPlace) (st : State) (b : Belongs p st) where
      -- A next hands out the first of those that follow.
      next_same : Same (next_of l s p) no_part (hand_out st (followers all st))
      next_same =
          let told = handed b.run refl p.position (step_further l s p.position p.units)
          p (next_keeps l s p b.fit) b.ahead.before b.goes
          (λ at h. b.ahead.same at h ∙ ap (starting_at at) b.ahead.are) b.ahead.each st (λ z. b) in
          rw (next_is l s p b.fit) (rw (ap (hand_out st) (sym b.ahead.are)) at told)

      -- The place is not empty, so that a unit is untouched by the plain reader's test.
      some : is_empty p ≡ false
      unfolding is_empty
      some = ne_eqb (length p.units) 0 (λ z. omega (arith, (fitting l (length s) p b.fit).some))

      pub last_is : p.last ≡ st.unit.unit
      unfolding handed_at
      last_is = ap (λ (u : Ranked). u.unit) b.last

      untouched_is : untouched p ≡ (st.fresh && opens st.unit.unit.id)
      untouched_is = rw (untouched_tests, some, b.flag, last_is, and_assoc, and_self)

      -- Past an untouched unit, what follows are the units that start at its end or after it.
      past : (st.fresh && opens st.unit.unit.id) ≡ true → Belongs (passed p) (passed_by st)
      unfolding followers
      past on =
          let t = top l (length s) p b.fit (b.flag ∙ on) in
          let u = st.unit.unit in
          let stop = u.end in
          let end : t.unit.end ≡ stop = t.end ∙ ap (λ (u : Unit). u.end) last_is in
          let within = lies l p.position t.unit t.around t.held.position in
          let w = both st.fresh (opens u.id) on in
          let new = b.latest w.0 in
          let ranks = split_ranks (u ∷ new.earlier) p.units p.ranks (rank_due p) new.behind.counted t.unit t.around t.units in
          let gone = run_past l s t.unit t.around p.position b.ahead.units within.1 (rw t.units at b.run) stop end in
          let are = b.ahead.are ∙ ap (λ us. ranked us b.ahead.units) new.is in
          let later : starting_at stop all ≡ ranked (gone.inside ++ (u ∷ new.earlier)) gone.later =
          rw (b.ahead.same stop (omega (arith, end)), are) (past_later l s gone (u ∷ new.earlier)) in
          let closed = passed_closes l s p t.unit t.around t.units ranks.0 ranks.1 ranks.2 t.state stop end
          (ap (λ (u : Unit). u.end) last_is) in
          let goes = past_goes u new.earlier p.position new.behind.follow.before.0 l s t.unit t.around
          (rw t.units at new.behind.follow) w.1 (omega (arith, end)) gone.inside gone.within ranks.1 ranks.0 ranks.3 in
          record {
            fit = passed_fits l (length s) p b.fit (b.flag ∙ on);
            last = handed_passed p ∙ b.last;
            flag = closed.fresh;
            here = b.here;
            ahead = record {
              before = gone.inside ++ (u ∷ new.earlier);
              units = gone.later;
              are = later;
              same = λ at h. sym (further_on stop at (rw closed.position at h) all);
              each = each_later P gone.inside gone.later (rw gone.units at b.ahead.each);
            };
            run = rw closed.step gone.run;
            goes = rw (closed.step, closed.ranks, closed.next) goes;
            latest = λ z. absurd (false≢true z);
          }

      -- What passes the unit answers 0 where that may be done, else 11,
      passing_is : (may : Bool) → passing l s p may ≡ cond may (move_to (passed p)) (refuse 11 0 p)
      passing_is true = rw (passing_tests, b.fit)
      passing_is false = rw passing_tests

      -- and so does the plain reader.
      pass_same : (may : Bool) → (may ≡ true → (st.fresh && opens st.unit.unit.id) ≡ true) → (part : Part) →
          Same (passing l s p may) (cond may part no_part) (pass may part st)
      pass_same true only part = rw (passing_is true) (record { told = refl; place = past (only refl) })
      pass_same false only part = rw (passing_is false) (record { told = refl; place = b })

      -- SKIP takes no part.
      skip_same : Same (skip_of l s p) no_part (pass (st.fresh && opens st.unit.unit.id) no_part st)
      skip_same =
          let may = st.fresh && opens st.unit.unit.id in
          rw (skip_is, untouched_is) (rw (either may) at (pass_same may (λ e. e) no_part))
        where
          either : (c : Bool) → cond c no_part no_part ≡ no_part
          either true = refl
          either false = refl

      -- A group admits others, so that its test covers the other.
      take_may : (untouched p && is_group p.last.id) ≡ (st.fresh && is_group st.unit.unit.id)
      take_may =
          rw (untouched_is, last_is) (go st.fresh (opens st.unit.unit.id) (is_group st.unit.unit.id) (group_opens st.unit.unit.id))
        where
          go : (f o g : Bool) → (g ≡ true → o ≡ true) → (f && o && g) ≡ (f && g)
          go true o true h = rw (h refl)
          go true o false h = and-false o
          go false o g h = refl

      -- GET_STREAM takes the unit's bytes as its part.
      part_taken_lem : (may : Bool) (part : Part) → cond (eqb (passing l s p may).number 0) part no_part ≡ cond may part no_part
      part_taken_lem true part = rw (passing_is true)
      part_taken_lem false part = rw (passing_is false)

      take_same : Same (take_of l s p) (part_of l s p) (pass (st.fresh && is_group st.unit.unit.id) (span_of st.unit.unit) st)
      take_same =
          let may = st.fresh && is_group st.unit.unit.id in
          let only : may ≡ true → (st.fresh && opens st.unit.unit.id) ≡ true =
          λ e. let w = both st.fresh (is_group st.unit.unit.id) e in rw w.0 (group_opens st.unit.unit.id w.1) in
          let part : part_of l s p ≡ cond may (span_of st.unit.unit) no_part =
          rw (part_is, take_is, take_may, part_taken_lem may (span_of p.last)) (ap (λ u. cond may (span_of u) no_part) last_is) in
          rw (part, take_is, take_may) (pass_same may only (span_of st.unit.unit))

      -- PREVIOUS hands out the last unit again.
      previous_same : Same (previous_of l s p) no_part (turn (handing st.unit) st)
      previous_same = rw (previous_is l s p b.fit) (record { told = rw b.last; place = b })

    -- So every call answers the same, where the place belongs to the state.
    pub call_same : (p : ReaderPlace) (st : State) → Belongs p st → (c : Call) →
        Same (call_of l s p c) (part_taken l s p c) (plain_answer first rest st c)
    call_same p st b Start = of_made p st Start (start_call l s p) (start_turn first rest st) start_same
    call_same p st b Next = of_made p st Next (next_call l s p) (next_turn first rest st) (next_same p st b)
    call_same p st b Skip = of_made p st Skip (skip_call l s p) (skip_turn first rest st) (skip_same p st b)
    call_same p st b GetStream = of_made p st GetStream (take_call l s p) (take_turn first rest st) (take_same p st b)
    call_same p st b Previous = of_made p st Previous (previous_call l s p) (previous_turn first rest st) (previous_same p st b)
