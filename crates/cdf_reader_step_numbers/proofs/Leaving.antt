-- What a turn on the cursor of some numbers leaves in the two arrays.
use Rattle.std.proofs.Common.{ℕ, ◌≡◌, refl, sym, ap, ◌∙◌, List, [], ◌∷◌}
use Rattle.std.specs.Prelude.{Ok, Err}
use Rattle.cdf_refusal.specs.Numbers.{number_of}
use Rattle.cdf_refusal.specs.declared.Fault.{Fault}
use Rattle.cdf_refusal.proofs.Apart.{refuses}
use Rattle.cdf_unit_prefix.specs.Layout.{Layout}
use Rattle.cdf_reader_spec.specs.Calls.{Reply, no_part}
use Rattle.cdf_reader_cursor.specs.Outcomes.{cursor_place, outcome_reply, reply_from}
use Rattle.cdf_reader_cursor.specs.Entering.{entering}
use Rattle.cdf_reader_cursor.specs.declared.Cursor.{Cursor}
use Rattle.cdf_reader_cursor.specs.declared.Outcome.{Outcome}
use Rattle.cdf_reader_advance.specs.Advancing.{advanced}
use Rattle.cdf_reader.specs.View.{view}
use Rattle.cdf_reader.specs.Cursors.{cursor_of, place_with}
use Rattle.cdf_reader.specs.declared.Place.{Place}
use Rattle.cdf_reader_numbers.specs.Numbers.{place_from, numbers_of, answer_numbers}
use Rattle.cdf_reader_numbers.proofs.Written.{read_again}
use Rattle.cdf_reader_turn.specs.Turning.{turned}
use Rattle.cdf_reader_step_numbers.specs.Numbered.{Stepped}
use Rattle.cdf_reader_turn.specs.declared.Reading.{Reading}

module _ (l : Layout) (s before : List ℕ) (c : Cursor) (at : c ≡ cursor_of (place_from before)) where
  abbrev Due : Reply
  Due = advanced l s (view (place_from before))

  -- The reply due to the numbers is the outcome's.
  due_is : (r : Reply) → r ≡ advanced l s (cursor_place c) → r ≡ Due
  due_is r due = due ∙ ap (λ (x : Cursor). advanced l s (cursor_place x)) at

  -- A refusal: the answer has its offset and zeros, and the place stays.
  pub refused : (f : Fault) → reply_from c (turned c (Err f)) ≡ advanced l s (cursor_place c) → (answer : List ℕ) →
      answer ≡ f.offset ∷ 0 ∷ 0 ∷ 0 ∷ 0 ∷ 0 ∷ 0 ∷ 0 ∷ 0 ∷ 0 ∷ [] → Stepped Due before (number_of f.refusal) before answer
  refused f due answer wrote =
      let is = due_is (reply_from c (turned c (Err f))) due in
      record {
        told = ap (λ (r : Reply). r.number) is;
        answers = wrote ∙ ap (λ (r : Reply). answer_numbers r no_part) is;
        moves = ap cursor_place (sym at) ∙ ap (λ (r : Reply). r.place) is;
        stays = λ some. refl;
        written = λ none. absurd (refuses f.refusal none);
      }

  -- A unit: it is handed out, and the place's numbers are those of the cursor that is entered.
  module _ (t : Reading) (due : reply_from c (turned c (Ok t)) ≡ advanced l s (cursor_place c)) where
    abbrev entered : Cursor → Outcome
    entered x = entering x t.left.count t.left.top t.handed t.next

    abbrev Then : Place
    Then = place_with (entered (cursor_of (place_from before))).cursor

    pub handed : (after answer : List ℕ) → after ≡ numbers_of Then →
        (let h = t.handed in
        answer ≡ 0 ∷ h.unit.id ∷ h.unit.action ∷ h.unit.start ∷ h.unit.own ∷ h.unit.end ∷ 0 ∷ 0 ∷ h.depth ∷ h.rank ∷ []) →
        Stepped Due before 0 after answer
    unfolding entering
    handed after answer wrote told =
        let is = ap (λ (x : Cursor). outcome_reply (entered x)) (sym at) ∙ due_is (reply_from c (turned c (Ok t))) due in
        let place = ap (λ (r : Reply). r.place) is in
        record {
          told = ap (λ (r : Reply). r.number) is;
          answers = told ∙ ap (λ (r : Reply). answer_numbers r no_part) is;
          moves = ap (λ ns. view (place_from ns)) wrote ∙ ap view (read_again Then) ∙ place;
          stays = λ some. absurd (some refl);
          written = λ none. (Then, place, wrote);
        }
