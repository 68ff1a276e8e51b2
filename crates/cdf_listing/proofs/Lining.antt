-- The lines of the units in the buffer, turn by turn.
use Rattle.std.proofs.Common.{ℕ, ◌^◌, ◌≤◌, ◌<◌, ◌≡◌, refl, ap, List, [], ◌∷◌, arith, length, length-append}
use Rattle.std.specs.Prelude.{Result, Ok, Err}
use Rattle.cdf_refusal.specs.declared.Fault.{Fault}
use Rattle.cdf_refusal.proofs.Apart.{refuses}
use Rattle.cdf_unit_prefix.specs.Layout.{layout_of}
use Rattle.cdf_unit_prefix.specs.declared.Edition.TheVariants.{First}
use Rattle.cdf_reader_spec.specs.Calls.{first_of}
use Rattle.cdf_unit_list.specs.declared.Unit.{Unit}
use Rattle.cdf_reader_runs.proofs.Looping.{Going, begun, Turn, turned, over}
use Rattle.cdf_unit_data.specs.Standing.{name_row, row_bytes}
use Rattle.cdf_reader_advance.specs.Advancing.{advanced_by}
use Rattle.cdf_reader.specs.View.{view, reply_of, reply_from, no_place}
use Rattle.cdf_reader.specs.declared.Place.{Place}
use Rattle.cdf_reader.specs.declared.Answer.{Answer}
use Rattle.cdf_reader.proofs.Walking.{left, Inside, first_inside, is_next, next_inside, fewer}
use Rattle.cdf_listing_spec.specs.Text.{line_of, listed_lines}
use Rattle.cdf_listing_spec.proofs.Short.{listed_short}
use Rattle.cdf_listing_spec.proofs.Lines.{text_of, lines_on, lines_over, text_next}
use Rattle.cdf_listing_lines.specs.Put.{Put}
use Rattle.cdf_listing_lines.proofs.Putting.{nothing_put, put_both}

-- The line of the unit that an answer hands out.
abbrev pub line_by : Answer → List ℕ
line_by a = line_of a.handed.depth a.handed.unit

module _ (s : List ℕ) where
  -- The lines before the answer in hand were put at the front.
  pub record Lined (before : List ℕ) (r : Result Answer Fault) (after : List ℕ) (at : ℕ) : Type 0 where
    pub units : List Unit
    pub from : Place
    pub going : Going (layout_of First) s units (reply_from from r)
    pub put : Put before 0 (text_of units) after at
    pub inside : Inside (layout_of First) s r

  pub lined_first : (before : List ℕ) (r : Result Answer Fault) → reply_from no_place r ≡ first_of (layout_of First) s → Lined before r before 0
  unfolding text_of
  lined_first before r e = record {
    units = [];
    from = no_place;
    going = begun (layout_of First) s (reply_from no_place r) e;
    put = nothing_put before 0;
    inside = first_inside (layout_of First) s r e;
  }

  pub lined_over : {before after : List ℕ} {r : Result Answer Fault} {at : ℕ} → Lined before r after at → (f : Fault) → r ≡ Err f →
      Put before 0 (listed_lines (layout_of First) s) after at
  lined_over w f is =
      let l = layout_of First in
      let a = reply_from w.from (Err f) in
      rw (lines_over l s w.units a (over l s w.units a (rw is at w.going) (refuses f.refusal))) w.put

  -- Behind all lines a place is still near the front.
  pub lines_near : {before after : List ℕ} {at : ℕ} → Put before 0 (listed_lines (layout_of First) s) after at → at < 2 ^ 32
  lines_near p = omega (arith, listed_short s, p.next)

  -- A unit was handed out.
  module _ {before after : List ℕ} {r : Result Answer Fault} {at : ℕ} (w : Lined before r after at) (a : Answer) (is : r ≡ Ok a) where
    goes : Going (layout_of First) s w.units (reply_of a)
    goes = rw is at w.going

    here : Turn (layout_of First) s w.units (reply_of a)
    here = turned (layout_of First) s w.units (reply_of a) goes refl

    pub lined_ordered : a.handed.unit.start ≤ a.handed.unit.end
    lined_ordered = omega (arith, here.own, here.end)

    pub lined_near : at < 2 ^ 32
    lined_near =
        let lines = simp length-append at (ap length (lines_on (layout_of First) s w.units (reply_of a) goes)) in
        omega (arith, listed_short s, w.put.next, lines)

    -- The place fits, so a step from it by 01's row is NEXT.
    module _ (row : List ℕ) (by : row ≡ name_row) (q : Result Answer Fault)
        (e : reply_from a.place q ≡ advanced_by (row_bytes row) (layout_of First) s (view a.place)) where
      pub lined_next : {more : List ℕ} {next : ℕ} → Put after at (line_by a) more next → Lined before q more next
      lined_next p = record {
        units = a.handed.unit ∷ w.units;
        from = a.place;
        going = rw (is_next (layout_of First) s a here.fit row by q e) here.next;
        put = rw (text_next (layout_of First) s w.units (reply_of a) here) (put_both w.put p);
        inside = next_inside (layout_of First) s a here.fit row by q e;
      }

      pub lined_less : left (layout_of First) s q < left (layout_of First) s r
      lined_less = rw is (fewer (layout_of First) s a here.fit row by q e (w.inside a is))
