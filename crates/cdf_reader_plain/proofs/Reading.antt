-- Runs of the two readers over a stream.
use Rattle.std.proofs.Common.{ℕ, ◌≤◌, ◌≡◌, refl, ◌∙◌, Bool, true, false, not, cond, ◌&&◌, List, [], ◌∷◌, ◌↔◌, arith, eq-eqb, length}
use mathlib.Core.List.{cons≢nil}
use Rattle.cdf_unit_table.proofs.Bools.{both}
use Rattle.cdf_unit_prefix.specs.Layout.{Layout}
use Rattle.cdf_unit_list.specs.declared.Ranked.{Ranked}
use Rattle.cdf_grammar.specs.Trees.{Forest}
use Rattle.cdf_grammar.specs.Encoding.{Stream}
use Rattle.cdf_grammar.proofs.Items.{Rooted}
use Rattle.cdf_reader_spec.specs.Place.{ReaderPlace, fits}
use Rattle.cdf_reader_spec.specs.Calls.{empty_place, refuse, move_to, passed, untouched, is_group, take_of, part_of, call_of, part_taken}
use Rattle.cdf_reader_spec.specs.declared.Call.{Call}
use Rattle.cdf_reader_spec.specs.declared.Call.TheVariants.{Start, Next, GetStream}
use Rattle.cdf_reader_plain.specs.Calls.{handing}
use Rattle.cdf_reader_plain.specs.Plain.{State, fresh_at, turn, hand_out, span_of, plain_answer}
use Rattle.cdf_reader_plain.specs.Runs.{reader_run, place_after, tells_after, plain_from, state_from, plain_run, following, bytes_in}
use Rattle.cdf_reader_spec.proofs.Replying.{passing_tests, take_is, part_is}
use Rattle.cdf_reader_plain.proofs.Equations.{start_call, take_call, next_turn, reader_none, reader_on, place_none, place_on}
use Rattle.cdf_reader_plain.proofs.Equations.{plain_none, plain_on, state_none, state_on, plain_is, following_is, after_is}
use Rattle.cdf_reader_plain.proofs.Answers.{Belongs, Same, last_is, start_same, call_same}
use Rattle.cdf_reader_plain.proofs.Streams.{Readable, group_stream}

module _ (l : Layout) (s : List ℕ) where
  -- What GET_STREAM takes is a group,
  take_group : (p : ReaderPlace) → (take_of l s p).number ≡ 0 → is_group p.last.id ≡ true
  take_group p z = (both (untouched p) _ (go (untouched p && is_group p.last.id) (rw (take_is, passing_tests) at z))).1
    where
      go : (may : Bool) →
          (cond (not may) (refuse 11 0 p) (cond (not (fits l (length s) p)) (refuse 2 0 p) (move_to (passed p)))).number ≡ 0 →
          may ≡ true
      go true z = refl
      go false z = absurd (omega arith)

  -- and the part is its bytes.
  take_part : (p : ReaderPlace) → (take_of l s p).number ≡ 0 →
      part_of l s p ≡ span_of p.last
  take_part p z = rw (part_is, eq-eqb (take_of l s p).number 0 z)

  module _ (first : Ranked) (rest : List Ranked) (r : Readable l s first rest) where
    -- The place and the state belong together.
    abbrev Together : ReaderPlace → State → Type 0
    Together = Belongs l s first rest (Rooted l s)

    -- The state that a start leaves.
    abbrev started : State
    started = fresh_at first rest

    -- A start makes them belong together and answers the same, and every call after it keeps them so.
    begun : Same l s first rest (Rooted l s) (call_of l s empty_place Start) (part_taken l s empty_place Start) (turn (handing first) started)
    begun =
        let asks = start_call l s empty_place in
        rw (asks.0, asks.1) (start_same l s first rest (Rooted l s) r.units r.are r.each r.run)

    called : (p : ReaderPlace) (st : State) → Together p st → (c : Call) →
        Same l s first rest (Rooted l s) (call_of l s p c) (part_taken l s p c) (plain_answer first rest st c)
    called = call_same l s first rest (Rooted l s) r.units r.are r.each r.run

    -- So do any calls: the answers are equal, and the last place belongs to the last state;
    runs_same : (cs : List Call) (p : ReaderPlace) (st : State) → Together p st → reader_run l s p cs ≡ plain_from first rest st cs
    runs_same [] p st at = rw (reader_none, plain_none)
    runs_same (c ∷ cs) p st at =
        let a = called p st at c in
        rw (reader_on, plain_on, a.told, runs_same cs (call_of l s p c).place (plain_answer first rest st c).state a.place)

    after_run : (cs : List Call) (p : ReaderPlace) (st : State) → Together p st →
        Together (place_after l s p cs) (state_from first rest st cs)
    after_run [] p st at = rw (place_none, state_none) at
    after_run (c ∷ cs) p st at =
        rw (place_on, state_on) (after_run cs (call_of l s p c).place (plain_answer first rest st c).state (called p st at c).place)

    -- and so from a start.
    pub answers : (cs : List Call) → reader_run l s empty_place (Start ∷ cs) ≡ plain_run first rest cs
    answers cs = rw (reader_on, plain_is, begun.told, runs_same cs (call_of l s empty_place Start).place started begun.place)

    after : (cs : List Call) → Together (place_after l s empty_place (Start ∷ cs)) (state_from first rest started cs)
    after cs = rw place_on (after_run cs (call_of l s empty_place Start).place started begun.place)

    -- NEXT tells the first of the units that follow.
    next_told : (cs : List Call) → tells_after l s cs Next ≡ (hand_out (state_from first rest started cs) (following first rest cs)).told
    next_told cs =
        let p = place_after l s empty_place (Start ∷ cs) in
        let st = state_from first rest started cs in
        after_is l s cs Next ∙ (called p st (after cs) Next).told ∙ rw (next_turn first rest st, following_is)

    pub follows : (cs : List Call) (u : Ranked) (us : List Ranked) → following first rest cs ≡ u ∷ us → tells_after l s cs Next ≡ handing u
    unfolding hand_out
    follows cs u us e = next_told cs ∙ rw e

    -- It is 1 exactly where none follows.
    end_number : (st : State) (us : List Ranked) → ((hand_out st us).told.number ≡ 1) ↔ (us ≡ [])
    unfolding hand_out
    end_number st [] = (λ e. refl, λ e. refl)
    end_number st (u ∷ us) = (λ e. absurd (omega arith), λ e. absurd (cons≢nil e))

    pub ends : (cs : List Call) → ((tells_after l s cs Next).number ≡ 1) ↔ (following first rest cs ≡ [])
    ends cs = rw (next_told cs) (end_number (state_from first rest started cs) (following first rest cs))

    -- A part that is taken is a stream.
    pub taken : length s ≤ l.limit → (cs : List Call) → (tells_after l s cs GetStream).number ≡ 0 →
        (t : Forest) × Stream l (bytes_in s (tells_after l s cs GetStream).part) t
    taken short cs z =
        let p = place_after l s empty_place (Start ∷ cs) in
        let asks = take_call l s p in
        let w : (take_of l s p).number ≡ 0 = rw (after_is l s cs GetStream, asks.0) at z in
        let b = after cs in
        let last = last_is l s first rest (Rooted l s) r.units r.are r.each r.run p (state_from first rest started cs) b in
        rw (after_is l s cs GetStream, asks.1, take_part p w) (group_stream l s p.last short (rw last b.here) (take_group p w))
