-- What NEXT begins with, by any judge: 11 where no unit is open, then 2 where the place does not fit.
use Rattle.std.proofs.Common.{ℕ, ◌≡◌, refl, sym, ◌∙◌, Bool, true, false, not, cond, List, eq-eqb, ne_eqb, eqb, length}
use Rattle.cdf_unit_prefix.specs.Layout.{Layout}
use Rattle.cdf_unit_data.specs.Standing.{name_row, row_bytes}
use Rattle.cdf_unit_judge.specs.Judge.{Judged, judge_in}
use Rattle.cdf_reader_spec.specs.Place.{ReaderPlace, is_empty, fits}
use Rattle.cdf_reader_spec.specs.Calls.{Reply, refuse, next_of}
use Rattle.cdf_reader_spec.proofs.Counted.{length_open}
use Rattle.cdf_reader_spec.proofs.Replying.{next_tests}
use Rattle.cdf_reader_cursor.specs.Outcomes.{cursor_place}
use Rattle.cdf_reader_cursor.specs.declared.Cursor.{Cursor}
use Rattle.cdf_reader_advance.specs.Advancing.{advanced_with, advanced_by}
use Rattle.cdf_reader_advance.proofs.Steady.{advances_by}
use Rattle.cdf_reader_step.specs.Asked.{next_with}

tests : (judge : ℕ → List ℕ → Judged) (l : Layout) (s : List ℕ) (p : ReaderPlace) →
    next_with judge l s p
    ≡ cond (is_empty p) (refuse 11 0 p) (cond (not (fits l (length s) p)) (refuse 2 0 p) (advanced_with judge s p))
unfolding next_with
tests judge l s p = refl

-- By the format's row it is NEXT.
pub by_row : (l : Layout) (s : List ℕ) (p : ReaderPlace) → next_with (judge_in (row_bytes name_row) l false) l s p ≡ next_of l s p
by_row l s p = tests _ l s p ∙ go (is_empty p) (fits l (length s) p) refl refl
  where
    go : (a b : Bool) → is_empty p ≡ a → fits l (length s) p ≡ b →
        cond a (refuse 11 0 p) (cond (not b) (refuse 2 0 p) (advanced_by (row_bytes name_row) l s p)) ≡ next_of l s p
    go true b none f = sym (next_tests l s p ∙ rw none)
    go false false some f = sym (next_tests l s p ∙ rw (some, f))
    go false true some f = advances_by name_row refl l s p f

module _ (judge : ℕ → List ℕ → Judged) (l : Layout) (s : List ℕ) (p : Cursor) where
  -- A place is empty exactly if its count is 0.
  empty_is : is_empty (cursor_place p) ≡ eqb p.units.count 0
  unfolding is_empty
  empty_is = rw (length_open p.units.count p.units.top p.units.o1 p.units.o2 p.units.o3)

  abbrev Due : Reply
  Due = next_with judge l s (cursor_place p)

  pub useless : p.units.count ≡ 0 → refuse 11 0 (cursor_place p) ≡ Due
  useless none = sym (tests judge l s (cursor_place p) ∙ rw (empty_is, eq-eqb p.units.count 0 none))

  module _ (some : p.units.count ≡ 0 → ⊥) where
    pub unfit : fits l (length s) (cursor_place p) ≡ false → refuse 2 0 (cursor_place p) ≡ Due
    unfit f = sym (tests judge l s (cursor_place p) ∙ rw (empty_is, ne_eqb p.units.count 0 some, f))

    pub goes_on : fits l (length s) (cursor_place p) ≡ true → advanced_with judge s (cursor_place p) ≡ Due
    goes_on f = sym (tests judge l s (cursor_place p) ∙ rw (empty_is, ne_eqb p.units.count 0 some, f))
