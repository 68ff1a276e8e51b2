-- What a call leaves in the two arrays.
use Rattle.std.proofs.Common.{ℕ, ◌≡◌, refl, sym, ap, ◌∙◌, true, false, not, true≢false, Bool, cond, ◌&&◌, List, ne_eqb, eqb}
use Rattle.cdf_unit_prefix.specs.Layout.{layout_for}
use Rattle.cdf_reader_spec.specs.Place.{ReaderPlace}
use Rattle.cdf_reader_spec.specs.Calls.{Reply, Part, no_part, is_start, call_of, part_taken}
use Rattle.cdf_reader_spec.specs.declared.Call.{Call}
use Rattle.cdf_reader_spec.specs.declared.Call.TheVariants.{Start, Next, Skip, GetStream, Previous}
use Rattle.cdf_reader_spec.proofs.Replying.{part_is, take_named}
use Rattle.cdf_reader.specs.View.{view}
use Rattle.cdf_reader.specs.Uses.{place_kept}
use Rattle.cdf_reader.specs.declared.Place.{Place}
use Rattle.cdf_reader.proofs.Keeping.{cleared}
use Rattle.cdf_reader_numbers.specs.Numbers.{place_from, numbers_of, answer_numbers, reply_to, numbers_kept, keeps, Called}
use Rattle.cdf_reader_numbers.specs.Taking.{is_take, part_by}
use Rattle.cdf_reader_numbers.proofs.Written.{read_again}

module _ (s : List ℕ) (v : ReaderPlace) where
  -- The part goes by the call's number.
  pub taken_is : (c : Call) →
      part_taken (layout_for s) s v c ≡ part_by c (call_of (layout_for s) s v c).number v.last.start v.last.end
  unfolding part_taken
  taken_is Start = refl
  taken_is Next = refl
  taken_is Skip = refl
  taken_is GetStream = rw take_named (part_is (layout_for s) s v)
  taken_is Previous = refl

-- What a call keeps was not a start's to clear, and is the place that was given;
kept_numbers : (c : Call) (n : ℕ) (before : List ℕ) → keeps c n ≡ true → before ≡ numbers_kept c before
kept_numbers Start n before e = absurd (true≢false (sym e))
kept_numbers Next n before e = refl
kept_numbers Skip n before e = refl
kept_numbers GetStream n before e = refl
kept_numbers Previous n before e = refl

some : (n : ℕ) → not (eqb n 0) ≡ true → n ≡ 0 → ⊥
some n e z = true≢false (sym e ∙ rw z)

kept_place : (c : Call) (n : ℕ) (p q : Place) → keeps c n ≡ true → ((n ≡ 0 → ⊥) → q ≡ place_kept c p) → (c ≡ Previous → q ≡ p) →
    q ≡ p
kept_place Start n p q e kept again = absurd (true≢false (sym e))
kept_place Next n p q e kept again = kept (some n e)
kept_place Skip n p q e kept again = kept (some n e)
kept_place GetStream n p q e kept again = kept (some n e)
kept_place Previous n p q e kept again = again refl

-- a refused call that does not keep it is a start.
cleared_by : (c : Call) (n : ℕ) → keeps c n ≡ false → (n ≡ 0 → ⊥) → is_start c ≡ true
cleared_by Start n e h = refl
cleared_by Next n e h = absurd (true≢false (rw (ne_eqb n 0 h) at e))
cleared_by Skip n e h = absurd (true≢false (rw (ne_eqb n 0 h) at e))
cleared_by GetStream n e h = absurd (true≢false (rw (ne_eqb n 0 h) at e))
cleared_by Previous n e h = absurd (true≢false e)

-- No part goes with a refusal.
pub no_part_by : (c : Call) (n from end : ℕ) → (n ≡ 0 → ⊥) → no_part ≡ part_by c n from end
no_part_by c n from end some = rw (ne_eqb n 0 some) (go (is_take c))
  where
    go : (b : Bool) → no_part ≡ cond (b && false) (part_by GetStream 0 from end) no_part
    go true = refl
    go false = refl

-- The answer to a call on the place that the numbers are, with the part that was found for it: the number, the place that goes with it, and
-- the reply that these are of.
pub record Answered (c : Call) (s before : List ℕ) (number : ℕ) (new : Place) (r : Reply) (answer : List ℕ) : Type 0 where
  pub place : Place
  pub read : place ≡ place_from before
  pub due : r ≡ call_of (layout_for s) s (view place) c
  pub told : number ≡ r.number
  pub at : view new ≡ r.place
  pub kept : (number ≡ 0 → ⊥) → new ≡ place_kept c place
  pub again : c ≡ Previous → new ≡ place
  pub part : Part
  pub by : part ≡ part_by c number place.last.start place.last.end
  pub written : answer ≡ answer_numbers r part

module _ {c : Call} {s before answer : List ℕ} {number : ℕ} {new : Place} {r : Reply} (w : Answered c s before number new r answer) where
  -- The reply and the part are those due to the numbers.
  due_is : r ≡ call_of (layout_for s) s (view (place_from before)) c
  due_is = w.due ∙ ap (λ (q : Place). call_of (layout_for s) s (view q) c) w.read

  part_due : w.part ≡ part_taken (layout_for s) s (view (place_from before)) c
  part_due =
      w.by
      ∙ ap (λ n. part_by c n w.place.last.start w.place.last.end) (w.told ∙ ap (λ (x : Reply). x.number) w.due)
      ∙ sym (taken_is s (view w.place) c)
      ∙ ap (λ (q : Place). part_taken (layout_for s) s (view q) c) w.read

  leaves : (after : List ℕ) → view (place_from after) ≡ view new → ((number ≡ 0 → ⊥) → after ≡ numbers_kept c before) →
      (keeps c number ≡ true → after ≡ before) → (keeps c number ≡ false → after ≡ numbers_of new) →
      Called c s before number after answer
  leaves after same stays again wrote =
      let place : view new ≡ (reply_to c s before).place = w.at ∙ ap (λ (x : Reply). x.place) due_is in
      record {
        told = w.told ∙ ap (λ (x : Reply). x.number) due_is;
        answers = w.written ∙ ap (λ x. answer_numbers x w.part) due_is ∙ ap (answer_numbers (reply_to c s before)) part_due;
        moves = same ∙ place;
        stays = stays;
        again = again;
        written = λ e. (new, place, wrote e);
      }

  -- The place's numbers stay where the call keeps them,
  pub leaves_old : keeps c number ≡ true → Called c s before number before answer
  leaves_old e =
      let same = kept_place c number w.place new e w.kept w.again ∙ w.read in
      leaves before (ap view (sym same)) (λ _. kept_numbers c number before e) (λ _. refl) (λ f. absurd (true≢false (sym e ∙ f)))

  -- and else they are written.
  pub leaves_new : keeps c number ≡ false → (after : List ℕ) → after ≡ numbers_of new → Called c s before number after answer
  leaves_new e after is =
      leaves after (ap (λ ns. view (place_from ns)) is ∙ ap view (read_again new)) (λ h. is ∙ clear h (cleared_by c number e h))
      (λ t. absurd (true≢false (sym t ∙ e))) (λ _. is)
    where
      clear : (number ≡ 0 → ⊥) → is_start c ≡ true → numbers_of new ≡ numbers_kept c before
      clear h start = rw start (ap numbers_of (w.kept h ∙ cleared c start w.place))
