-- Each return by its law (cdf_reader_cursor/proofs/Entered), by the unit's first state and how many units are left open.
use Rattle.std.proofs.Common.{ℕ, refl, sym, ap, ◌∙◌, List, arith}
use Rattle.cdf_unit_table.proofs.Options.{none_told, some_told}
use Rattle.cdf_unit_list.specs.Stack.{with_state}
use Rattle.cdf_reader_cursor.specs.Entering.{entering}
use Rattle.cdf_reader_cursor.specs.declared.Outcome.{Outcome}
use Rattle.cdf_reader_cursor.proofs.Entered.{none, one, two, more}
use Rattle.cdf_reader.specs.Cursors.{cursor_of, place_with}
use Rattle.cdf_reader.specs.declared.Place.{Place}
use Rattle.cdf_reader_numbers.specs.Numbers.{numbers_of}
use Rattle.cdf_reader_step_numbers.proofs.enter.Goals as goal

-- The numbers of the place that an outcome leads to.
abbrev numbers : Outcome → List ℕ
numbers o = numbers_of (place_with o.cursor)

pub returns-in_default : goal.returns-in_default
unfolding with_state
returns-in_default c =
    let a = c.args in
    let p = c.place_from-p.result in
    c.write_place.ensures
    ∙ rw c.rank_at-around.ensures
    (sym (ap numbers (none (cursor_of p) a.left.count a.left.top a.handed a.next _ refl (none_told _ (sym c.first_state.ensures ∙ c.in_default.is)))))
    ∙ ap (λ (q : Place). numbers (entering (cursor_of q) a.left.count a.left.top a.handed a.next)) c.place_from-p.ensures

pub returns-in-1 : goal.returns-in-1
unfolding with_state
returns-in-1 c =
    let a = c.args in
    let p = c.place_from-p.result in
    let told = some_told _ _ (sym c.first_state.ensures ∙ c.in-Some.is) in
    c.write_inside.ensures
    ∙ rw (told.0, c.rank_at-around.ensures)
    (sym (ap numbers (one (cursor_of p) a.left.count a.left.top a.handed a.next _ told.0 told.1 c.in-1.is)))
    ∙ ap (λ (q : Place). numbers (entering (cursor_of q) a.left.count a.left.top a.handed a.next)) c.place_from-p.ensures

pub returns-in-2 : goal.returns-in-2
unfolding with_state
returns-in-2 c =
    let a = c.args in
    let p = c.place_from-p.result in
    let told = some_told _ _ (sym c.first_state.ensures ∙ c.in-Some.is) in
    c.write_inside-in-2.ensures
    ∙ rw (told.0, c.rank_at-around.ensures)
    (sym (ap numbers (two (cursor_of p) a.left.count a.left.top a.handed a.next _ told.0
    told.1 (λ z. omega arith) c.in-2.is)))
    ∙ ap (λ (q : Place). numbers (entering (cursor_of q) a.left.count a.left.top a.handed a.next)) c.place_from-p.ensures

pub returns-in_default-count : goal.returns-in_default-count
unfolding with_state
returns-in_default-count c =
    let a = c.args in
    let p = c.place_from-p.result in
    let told = some_told _ _ (sym c.first_state.ensures ∙ c.in-Some.is) in
    c.write_inside-in_default-count.ensures
    ∙ rw (told.0, c.rank_at-around.ensures)
    (sym (ap numbers (more (cursor_of p) a.left.count a.left.top a.handed a.next _ told.0
    told.1 (λ z. omega arith) (λ z. omega arith))))
    ∙ ap (λ (q : Place). numbers (entering (cursor_of q) a.left.count a.left.top a.handed a.next)) c.place_from-p.ensures
