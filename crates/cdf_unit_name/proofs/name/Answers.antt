-- Each return by the count, or by how many of its bytes may stand there.
use Rattle.std.proofs.Common.{◌+◌, ◌-◌, ◌≡◌, refl, sym, ◌∙◌, drop, get_or, arith, le-leb, eq-eqb, ne_eqb}
use Rattle.std.proofs.lemmas.Bool.{lt-leb}
use Rattle.cdf_unit_table.proofs.Parts.{minus_one}
use Rattle.cdf_unit_data.specs.Data.{name_by, spelled}
use Rattle.cdf_unit_data.specs.Standing.{row_bytes}
use Rattle.cdf_unit_data.proofs.Names.{front_short, name_none, name_is, name_by_lem}
use Rattle.cdf_unit_name.proofs.name.Goals as goal

pub returns-then-s-eq0 : goal.returns-then-s-eq0
returns-then-s-eq0 c = name_none _ _ c.if-s-eq0.true

pub overflow_cast-count : goal.overflow_cast-count
overflow_cast-count c = omega (arith, c.shared_slice_known-2-1.given 0)

pub returns-then-count-lt1 : goal.returns-then-count-lt1
returns-then-count-lt1 c = sym (name_is _ _ c.if-s-eq0.false _ refl ∙ rw (lt-leb 1 _ c.if-count-lt1.true))

pub returns-then-count-gt32 : goal.returns-then-count-gt32
returns-then-count-gt32 c =
    sym (name_is _ _ c.if-s-eq0.false _ refl ∙ rw (le-leb 1 _ c.if-count-lt1.false, lt-leb _ 32 c.if-count-gt32.true))

pub returns-then-s-count : goal.returns-then-s-count
returns-then-s-count c =
    sym
    (name_is _ _ c.if-s-eq0.false _ refl
    ∙ rw (le-leb 1 _ c.if-count-lt1.false, le-leb _ 32 c.if-count-gt32.false, lt-leb _ _ c.if-s-count.true))

pub overflow_add-result : goal.overflow_add-result
overflow_add-result c =
    let a = c.args in
    let s = a.s.now in
    omega (arith, front_short (row_bytes a.row.now) (1 + get_or s 0 0 - 1) (drop 1 s), c.name_front-front.ensures)

pub returns-then-front-count : goal.returns-then-front-count
unfolding spelled
returns-then-front-count c =
    let right_count : (let a = c.args in
    let s = a.s.now in
    name_by (row_bytes a.row.now) s ≡ spelled (get_or s 0 0) c.name_front-front.result) =
    name_by_lem _ _ c.if-s-eq0.false _ refl c.if-count-lt1.false c.if-count-gt32.false c.if-s-count.false
    ∙ rw (← (simp minus_one at c.name_front-front.ensures)) in
    sym (right_count ∙ rw (eq-eqb _ _ c.if-front-count.true))

pub returns-else-front-count : goal.returns-else-front-count
unfolding spelled
returns-else-front-count c =
    let right_count : (let a = c.args in
    let s = a.s.now in
    name_by (row_bytes a.row.now) s ≡ spelled (get_or s 0 0) c.name_front-front.result) =
    name_by_lem _ _ c.if-s-eq0.false _ refl c.if-count-lt1.false c.if-count-gt32.false c.if-s-count.false
    ∙ rw (← (simp minus_one at c.name_front-front.ensures)) in
    sym (right_count ∙ rw (ne_eqb _ _ c.if-front-count.false))
