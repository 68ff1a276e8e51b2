-- A walk over the answers of a start and steps.
use Rattle.std.proofs.Common.{ℕ, ◌≤◌, ◌<◌, ◌≡◌, refl, ◌∙◌, true, List, arith, length}
use Rattle.std.specs.Prelude.{Result, Ok, Err}
use Rattle.cdf_refusal.specs.declared.Fault.{Fault}
use Rattle.cdf_unit_prefix.specs.Layout.{Layout}
use Rattle.cdf_unit_data.specs.Standing.{name_row, row_bytes}
use Rattle.cdf_reader_spec.specs.Place.{fits}
use Rattle.cdf_reader_spec.specs.Calls.{first_of, next_of}
use Rattle.cdf_reader_runs.proofs.Further.{first_later, next_later, ahead, less}
use Rattle.cdf_reader_advance.specs.Advancing.{advanced_by}
use Rattle.cdf_reader_advance.proofs.Steady.{advances_by}
use Rattle.cdf_reader.specs.View.{view, no_place, reply_from}
use Rattle.cdf_reader.specs.declared.Answer.{Answer}

module _ (l : Layout) (s : List ℕ) where
  -- What is left of it after an answer.
  abbrev pub left : Result Answer Fault → ℕ
  left (Ok a) = ahead l s 0 a.place.position
  left (Err f) = 0

  -- An answer's place lies in the bytes.
  abbrev pub Inside : Result Answer Fault → Type 0
  Inside r = (a : Answer) → r ≡ Ok a → a.place.position ≤ length s

  pub first_inside : (r : Result Answer Fault) → reply_from no_place r ≡ first_of l s → Inside r
  first_inside r e a is = let same = rw is at e in ((rw (← same) at (first_later l s)) refl).1

  -- A step from a place that fits, by 01's row: it is inside again, and less is left.
  module _ (a : Answer) (fit : fits l (length s) (view a.place) ≡ true) (row : List ℕ) (by : row ≡ name_row)
      (r : Result Answer Fault) (e : reply_from a.place r ≡ advanced_by (row_bytes row) l s (view a.place)) where
    pub is_next : reply_from a.place r ≡ next_of l s (view a.place)
    is_next = e ∙ advances_by row by l s (view a.place) fit

    pub next_inside : Inside r
    next_inside b is = let same = rw is at is_next in ((rw (← same) at (next_later l s (view a.place))) refl).1

    pub fewer : a.place.position ≤ length s → left r < left (Ok a)
    fewer h = go r is_next
      where
        go : (r : Result Answer Fault) → reply_from a.place r ≡ next_of l s (view a.place) → left r < left (Ok a)
        go (Ok b) w = less l s _ _ (reply_from a.place (Ok b)) refl h (rw (← w) at (next_later l s (view a.place)))
        go (Err f) w = omega arith
