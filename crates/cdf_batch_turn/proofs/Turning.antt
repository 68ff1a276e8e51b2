-- What a turn comes to, one case at a time, and that the code's is the one that is due.
use Rattle.std.proofs.Common.{ℕ, ◌+◌, ◌≤◌, ◌%◌, ◌≡◌, refl, sym, ap, ◌∙◌, Bool, true, false, cond, ◌&&◌, List, [], arith, ne_eqb, ltb-false, eqb, ltb}
use Rattle.std.proofs.Common.{length}
use Rattle.cdf_refusal.specs.Numbers.{number_of}
use Rattle.cdf_refusal.specs.declared.Refusal.{Refusal}
use Rattle.cdf_refusal.specs.declared.Refusal.TheVariants.{Place}
use Rattle.cdf_refusal.proofs.Apart.{refuses}
use Rattle.cdf_unit_table.specs.States.{nothing}
use Rattle.cdf_unit_prefix.specs.Layout.{Layout, layout_of, prefix_of}
use Rattle.cdf_unit_prefix.specs.declared.Edition.TheVariants.{First}
use Rattle.cdf_grammar.specs.Encoding.{unit_bytes}
use Rattle.cdf_reader_spec.proofs.Counted.{length_held}
use Rattle.cdf_builder_spec.specs.Place.{BuilderPlace, fits}
use Rattle.cdf_builder_spec.specs.Requests.{joining, join_number, advanced, grown}
use Rattle.cdf_builder_spec.specs.Calls.{Decision, Reply, call_number, write_of}
use Rattle.cdf_builder_spec.specs.Slots.{no_begun, units, placed}
use Rattle.cdf_builder_spec.specs.declared.Begun.{Begun}
use Rattle.cdf_builder_spec.specs.declared.Parts.{Parts}
use Rattle.cdf_builder_spec.proofs.Replying.{call_number_lem, call_fit, call_done, bytes_unit}
use Rattle.cdf_builder_runs.specs.Runs.{answer}
use Rattle.cdf_builder_enter.specs.Entering.{entered_by}
use Rattle.cdf_builder_enter.proofs.Entered.{entered_is}
use Rattle.cdf_builder_decide.proofs.Stages.{decided, allowed, left_some, unit_place}
use Rattle.cdf_builder_append.specs.Held.{held}
use Rattle.cdf_builder_append.proofs.Held.{held_few}
use Rattle.cdf_builder_calls.proofs.Calling.{id_byte, action_byte}
use Rattle.cdf_batch_spec.specs.declared.UnitRequest.{UnitRequest}
use Rattle.cdf_batch_spec.specs.Asking.{bounded, asked, unbounded, judged}
use Rattle.cdf_batch_spec.specs.Batches.{from}
use Rattle.cdf_batch_spec.proofs.Staged.{unbounded_some}
use Rattle.cdf_batch_spec.proofs.Judging.{judged_is}
use Rattle.cdf_batch_turn.specs.declared.PlaceNumbers.{PlaceNumbers}
use Rattle.cdf_batch_turn.specs.Numbers.{viewed, parts_from, numbers_from}
use Rattle.cdf_batch_turn.specs.Passes.{part, crowded, pass_number, Going, going, stopped, put, settled, turn_of}
use Rattle.cdf_batch_turn.proofs.Steady.{crowded_is, number_bad, number_good, number_taken}

and_false : (b : Bool) → (b && false) ≡ false
and_false true = refl
and_false false = refl

and_true : (b : Bool) → (b && true) ≡ b
and_true true = refl
and_true false = refl

module _ (l : Layout) (text : List ℕ) (g : Going) (rank : ℕ) (r : UnitRequest) where
  abbrev n : ℕ
  n = length g.buffer

  abbrev Number : ℕ
  Number = pass_number l g.writing n text g.place r

  turn_is : turn_of l text g rank r ≡ cond (eqb g.number 0) (settled l text g rank r Number) g
  unfolding turn_of
  turn_is = refl

  -- After a refusal nothing is done.
  pub turn_still : (g.number ≡ 0 → ⊥) → turn_of l text g rank r ≡ g
  turn_still some = turn_is ∙ rw (ne_eqb g.number 0 some)

  -- Before one, what was told before it does not matter.
  pub turn_anew : g.number ≡ 0 → turn_of l text (going g.writing g.place g.buffer) rank r ≡ turn_of l text g rank r
  unfolding turn_of
  turn_anew zero = rw zero

  module _ (zero : g.number ≡ 0) where
    turn_by : (m : ℕ) → Number ≡ m → turn_of l text g rank r ≡ settled l text g rank r m
    turn_by m e = turn_is ∙ rw (zero, e)

    pub turn_refused : (m : ℕ) → Number ≡ m → (m ≡ 0 → ⊥) →
        turn_of l text g rank r ≡ record { writing = g.writing; number = m; rank = rank; place = g.place; buffer = g.buffer }
    turn_refused m e some = turn_by m e ∙ rw (ne_eqb m 0 some, and_false g.writing)

    pub turn_done : Number ≡ 0 →
        turn_of l text g rank r
        ≡ record {
          writing = g.writing;
          number = 0;
          rank = 0;
          place = grown l g.place (asked text r);
          buffer = cond g.writing (put l text g r) g.buffer;
        }
    turn_done e = turn_by 0 e ∙ rw (and_true g.writing)

    -- At a place that fits the first pass judges,
    abbrev d : Decision
    d = judged l n text g.place r

    abbrev pub tells : ℕ → BuilderPlace → Going
    tells m q = record { writing = false; number = m; rank = cond (eqb m 0) 0 rank; place = q; buffer = g.buffer }

    abbrev judged_first : ℕ
    judged_first = pass_number l false n text g.place r

    pub turn_judges : fits l n g.place ≡ true → g.writing ≡ false → turn_of l text g rank r ≡ tells d.number d.place
    turn_judges f w = turn_is ∙ rw (zero, w) (by (bounded text r) refl)
      where
        by : (b : Bool) → bounded text r ≡ b →
            tells judged_first (cond (eqb judged_first 0) (grown l g.place (asked text r)) g.place) ≡ tells d.number d.place
        by true e =
            rw (number_good l n text g.place r e f, judged_is l n text g.place r, e, decided l n g.place (asked text r) _ refl)
        by false e =
            rw (
              number_bad l false n text g.place r f e,
              judged_is l n text g.place r,
              e,
              ne_eqb (unbounded l n g.place r) 0 (unbounded_some l n g.place r),
            )

    -- and where a call answers 0 the second makes it.
    abbrev reply : Reply
    reply = answer l (from g.place g.buffer) (asked text r)

    pub turn_calls : bounded text r ≡ true → reply.number ≡ 0 → g.writing ≡ true →
        turn_of l text g rank r ≡ record { writing = true; number = reply.number; rank = 0; place = reply.place; buffer = reply.buffer }
    turn_calls good done w =
        let call : call_number l n g.place (asked text r) ≡ 0 = sym (call_number_lem l g.buffer g.place (asked text r)) ∙ done in
        let f = call_fit l n g.place (asked text r) call in
        let bytes = allowed l n g.place _ call in
        let number : Number ≡ 0 = rw w (number_taken l n text g.place r good f call) in
        turn_done number
        ∙ rw (
          w,
          id_byte r.id bytes.0,
          action_byte r.id r.action bytes.0 bytes.1,
          call_done l g.buffer g.place (asked text r) done,
          bytes_unit l (record { id = r.id; action = r.action; text = part text r }),
        )

-- The code's turns: p is what the numbers are.
module _ (text s : List ℕ) (w : Bool) (place : PlaceNumbers) (rank : ℕ) (r : UnitRequest) (p : Parts) (parts : p ≡ parts_from place) where
  abbrev l₁ : Layout
  l₁ = layout_of First

  abbrev due_of : Going
  due_of = turn_of l₁ text (going w (viewed place) s) rank r

  abbrev told : ℕ
  told = pass_number l₁ w (length s) text (placed p) r

  there : turn_of l₁ text (going w (placed p) s) rank r ≡ due_of
  there = ap (λ (x : Parts). turn_of l₁ text (going w (placed x) s) rank r) parts

  pub refused : (e : Refusal) → told ≡ number_of e → stopped w (viewed place) e rank s ≡ due_of
  refused e is =
      ap (λ (x : Parts). stopped w (placed x) e rank s) (sym parts)
      ∙ sym (turn_refused l₁ text (going w (placed p) s) rank r refl (number_of e) is (refuses e)) ∙ there

  -- So many units are left open, with this one the innermost.
  module _ (count : ℕ) (top : Begun) (left : units count top p.units.o1 p.units.o2 p.units.o3 ≡ advanced r.id (joining r.id (placed p).units))
      (first : ℕ) (is : first ≡ nothing r.id) where
    abbrev full : Bool
    full = cond (eqb first 0) (ltb 4 count) (ltb 3 count)

    -- More than there are slots for.
    pub crowding : told ≡ cond (crowded l₁ text (placed p) r) 2 0 → full ≡ true →
        stopped w (viewed place) Place rank s ≡ due_of
    crowding e many = refused Place (e ∙ rw (sym (crowded_is l₁ text p r count top left first is) ∙ many))

    module _ (j : join_number (placed p).units r.id 0 ≡ 0) (few : full ≡ false)
        (size : ℕ) (sized : size ≡ prefix_of l₁ + length (part text r)) (after : Parts)
        (entered : after ≡ entered_by p count top (p.written + size) first) where
      abbrev due : BuilderPlace
      due = grown l₁ (placed p) (asked text r)

      slot : (first ≡ 0 → ⊥) → (1 ≤ count) × (count ≤ 3)
      slot some =
          let many : ltb 3 count ≡ false = rw (ne_eqb first 0 some) at few in
          (left_some l₁ 0 p count top r.id left j, ltb-false 3 count many)

      grew : placed after ≡ due
      grew =
          ap placed entered ∙ entered_is p count top (p.written + size) first slot
          ∙ sym (unit_place l₁ 0 p count top r.id left r.action (part text r) size sized first is)

      open_slots : crowded l₁ text (placed p) r ≡ false
      open_slots = sym (crowded_is l₁ text p r count top left first is) ∙ few

      four : after.units.count ≤ 4
      four =
          let most = ltb-false 4 (length due.units) open_slots in
          let counted = length_held no_begun after.units.count after.units.top after.units.o1 after.units.o2 after.units.o3 in
          omega (arith, most, counted, ap (λ (q : BuilderPlace). length q.units) grew)

      abbrev wrote : BuilderPlace → List ℕ
      wrote q = cond w (write_of l₁ p.written q (unit_bytes l₁ (r.id % 256) (r.action % 256) (part text r) []) s) s

      pub built : told ≡ cond (crowded l₁ text (placed p) r) 2 0 → (q : PlaceNumbers) → q ≡ numbers_from after →
          (t : List ℕ) → t ≡ wrote (held after) → going w (viewed q) t ≡ due_of
      built number q numbers t e =
          ap (λ (x : PlaceNumbers). going w (viewed x) t) numbers ∙ ap (λ (x : BuilderPlace). going w x t) grew
          ∙ ap (going w due) (e ∙ ap wrote (held_few after four ∙ grew))
          ∙ sym (turn_done l₁ text (going w (placed p) s) rank r refl (number ∙ rw open_slots)) ∙ there
