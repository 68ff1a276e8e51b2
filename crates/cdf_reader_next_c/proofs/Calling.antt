-- What NEXT leaves in the two arrays: 11, 2, and else what a step does.
use Rattle.std.proofs.Common.{ℕ, ◌≡◌, refl, sym, ap, ◌∙◌, Bool, true, false, not, true≢false, List, [], ◌∷◌, arith, eqb-true, eqb, length}
use Rattle.std.proofs.lemmas.Bool.{eqb-false}
use Rattle.cdf_refusal.specs.declared.Refusal.TheVariants.{NoUse, Place}
use Rattle.cdf_unit_prefix.specs.Layout.{layout_for}
use Rattle.cdf_reader_spec.specs.Place.{ReaderPlace, fits}
use Rattle.cdf_reader_spec.specs.Calls.{Reply, refuse, no_part, call_of, part_taken}
use Rattle.cdf_reader_spec.specs.declared.Call.TheVariants.{Next}
use Rattle.cdf_reader_spec.proofs.Replying.{next_named}
use Rattle.cdf_reader_cursor.specs.declared.Cursor.{Cursor}
use Rattle.cdf_reader_advance.specs.Advancing.{advanced}
use Rattle.cdf_reader_advance.proofs.Steady.{advances}
use Rattle.cdf_reader_step.proofs.Asking.{next_none, next_some, useless, unfit}
use Rattle.cdf_reader.specs.View.{view}
use Rattle.cdf_reader.specs.Cursors.{cursor_of}
use Rattle.cdf_reader_numbers.specs.Numbers.{place_from, answer_numbers, Called}
use Rattle.cdf_reader_step_numbers.specs.Numbered.{Stepped}

-- NEXT keeps the place's numbers beside any number but 0.
some : (n : ℕ) (b : Bool) → eqb n 0 ≡ b → not b ≡ true → n ≡ 0 → ⊥
some n true f e = absurd (true≢false (sym e))
some n false f e = eqb-false n 0 f

none : (n : ℕ) (b : Bool) → eqb n 0 ≡ b → not b ≡ false → n ≡ 0
none n true f e = eqb-true n 0 f
none n false f e = absurd (true≢false e)

module _ (s before : List ℕ) where
  abbrev v : ReaderPlace
  v = view (place_from before)

  abbrev c : Cursor
  c = cursor_of (place_from before)

  abbrev Due : Reply
  Due = call_of (layout_for s) s v Next

  -- What a step's promise says of the reply that is due to NEXT is what is promised of the call.
  called : (number : ℕ) (after answer : List ℕ) (r : Reply) → r ≡ Due → Stepped r before number after answer → Called Next s before number after answer
  unfolding part_taken
  called number after answer r is w = record {
    told = w.told ∙ ap (λ (r : Reply). r.number) is;
    answers = w.answers ∙ ap (λ (r : Reply). answer_numbers r no_part) is;
    moves = w.moves ∙ ap (λ (r : Reply). r.place) is;
    stays = w.stays;
    again = λ e. w.stays (some number (eqb number 0) refl e);
    written = λ e.
        let q = w.written (none number (eqb number 0) refl e) in
        (q.0, q.1 ∙ ap (λ (r : Reply). r.place) is, q.2);
  }

  -- A refusal without an offset.
  refused : (n : ℕ) → (n ≡ 0 → ⊥) → refuse n 0 v ≡ Due →
      Called Next s before n before (0 ∷ 0 ∷ 0 ∷ 0 ∷ 0 ∷ 0 ∷ 0 ∷ 0 ∷ 0 ∷ 0 ∷ [])
  refused n some is =
      called n before (0 ∷ 0 ∷ 0 ∷ 0 ∷ 0 ∷ 0 ∷ 0 ∷ 0 ∷ 0 ∷ 0 ∷ []) (refuse n 0 v) is
      (record { told = refl; answers = refl; moves = refl; stays = λ some. refl; written = λ none. absurd (some none) })

  pub empty : (place_from before).units.count ≡ 0 → Called Next s before 11 before (0 ∷ 0 ∷ 0 ∷ 0 ∷ 0 ∷ 0 ∷ 0 ∷ 0 ∷ 0 ∷ 0 ∷ [])
  empty e = refused 11 (λ z. omega arith) (useless c (layout_for s) s Next (next_none c e) (record { refusal = NoUse; offset = 0 }) refl).0

  pub no_fit : ((place_from before).units.count ≡ 0 → ⊥) → fits (layout_for s) (length s) v ≡ false →
      Called Next s before 2 before (0 ∷ 0 ∷ 0 ∷ 0 ∷ 0 ∷ 0 ∷ 0 ∷ 0 ∷ 0 ∷ 0 ∷ [])
  no_fit some e = refused 2 (λ z. omega arith) (unfit c (layout_for s) s Next (next_some c some) e (record { refusal = Place; offset = 0 }) refl).0

  -- At a place that fits a step is NEXT.
  pub steps : fits (layout_for s) (length s) v ≡ true → (number : ℕ) (after answer : List ℕ) →
      Stepped (advanced (layout_for s) s v) before number after answer → Called Next s before number after answer
  steps fit number after answer w =
      called number after answer _ (advances (layout_for s) s v fit ∙ sym (next_named (layout_for s) s v)) w
