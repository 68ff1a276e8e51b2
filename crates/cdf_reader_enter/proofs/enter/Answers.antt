-- Each return by its law (cdf_reader_cursor/proofs/Entered), by the unit's first state and how many units are left open.
use Rattle.std.proofs.Common.{refl, sym, ◌∙◌, arith}
use Rattle.cdf_unit_table.proofs.Options.{none_told, some_told}
use Rattle.cdf_unit_list.specs.Stack.{with_state}
use Rattle.cdf_reader_cursor.proofs.Entered.{none, one, two, more}
use Rattle.cdf_reader_enter.proofs.enter.Goals as goal

pub returns-in_default : goal.returns-in_default
unfolding with_state
returns-in_default c =
    let a = c.args in
    c.hand_out.ensures
    ∙ rw c.rank_at-around.ensures
    (sym (none a.c a.left.count a.left.top a.handed a.next _ refl (none_told _ (sym c.first_state.ensures ∙ c.in_default.is))))

pub returns-in-1 : goal.returns-in-1
unfolding with_state
returns-in-1 c =
    let a = c.args in
    let told = some_told _ _ (sym c.first_state.ensures ∙ c.in-Some.is) in
    c.inside.ensures
    ∙ rw (told.0, c.rank_at-around.ensures)
    (sym (one a.c a.left.count a.left.top a.handed a.next _ told.0 told.1 c.in-1.is))

pub returns-in-2 : goal.returns-in-2
unfolding with_state
returns-in-2 c =
    let a = c.args in
    let told = some_told _ _ (sym c.first_state.ensures ∙ c.in-Some.is) in
    c.inside-in-2.ensures
    ∙ rw (told.0, c.rank_at-around.ensures)
    (sym (two a.c a.left.count a.left.top a.handed a.next _ told.0 told.1 (λ z. omega arith) c.in-2.is))

pub returns-in_default-count : goal.returns-in_default-count
unfolding with_state
returns-in_default-count c =
    let a = c.args in
    let told = some_told _ _ (sym c.first_state.ensures ∙ c.in-Some.is) in
    c.inside-in_default-count.ensures
    ∙ rw (told.0, c.rank_at-around.ensures)
    (sym (more a.c a.left.count a.left.top a.handed a.next _ told.0 told.1 (λ z. omega arith) (λ z. omega arith)))
