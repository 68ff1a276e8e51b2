-- Each return by its law (cdf_reader_advance/proofs/Stepped), which wants what is known at its place of the code: `lies` past the test of
-- the part, `j` past the judge, `before` past the rank before, and `room` past the test of room.
use Rattle.std.proofs.Common.{suc, ◌<◌, refl, sym, ap, ◌∙◌, arith, add-one, length}
use Rattle.std.specs.Prelude.{Err}
use Rattle.cdf_unit_prefix.specs.Layout.{layout_of}
use Rattle.cdf_unit_judge.specs.Answers.{judged}
use Rattle.cdf_refusal.specs.declared.Fault.{Fault}
use Rattle.cdf_reader_cursor.specs.Outcomes.{reply_from}
use Rattle.cdf_reader_cursor.specs.declared.Cursor.{Cursor}
use Rattle.cdf_reader_spec.specs.Calls.{Reply}
use Rattle.cdf_reader_advance.proofs.Standing.{before_is, from_is}
use Rattle.cdf_reader_advance.proofs.Stepped.{leaves, at_end_lem, at_incomplete, outside, inside_fault, no_room, following, enters_found}
use Rattle.cdf_reader_turn.proofs.turn.Goals as goal

-- A refusal, as the code makes it.
abbrev told : Cursor → Fault → Reply
told c f = reply_from c (Err f)

pub returns-then-count-eq0 : goal.returns-then-count-eq0
returns-then-count-eq0 g c = ap (told c.args.c) c.at.ensures ∙ sym (at_end_lem _ _ _ _ _ c.close-left.ensures c.if-count-eq0.true)

pub returns-then-inner-at : goal.returns-then-inner-at
returns-then-inner-at g c =
    ap (told c.args.c) c.at-then-inner-at.ensures
    ∙ sym (at_incomplete _ _ _ _ _ c.close-left.ensures c.if-count-eq0.false c.if-inner-at.true)

pub returns-then-not-is_inside : goal.returns-then-not-is_inside
returns-then-not-is_inside g c =
    let a = c.args in
    let judge = g.J.Judges.finds a.by.now (layout_of a.edition) in
    rw
    (outside judge a.s.now a.c _ _ c.close-left.ensures c.if-count-eq0.false c.if-inner-at.false (sym c.is_inside.ensures ∙ c.if-not-is_inside.true))
    refl

pub returns-in-Err : goal.returns-in-Err
returns-in-Err g c =
    ap (told c.args.c) c.at-in-Err.ensures
    ∙ sym (inside_fault _ _ _ _ _ c.close-left.ensures c.if-count-eq0.false c.if-inner-at.false (sym c.is_inside.ensures ∙ c.if-not-is_inside.false)
    (sym c.find.ensures ∙ ap judged c.in-Err.is))

pub returns-then-not-has_room : goal.returns-then-not-has_room
returns-then-not-has_room g c =
    let a = c.args in
    let judge = g.J.Judges.finds a.by.now (layout_of a.edition) in
    let left = leaves judge a.s.now a.c _ _ c.close-left.ensures in
    let before = ap suc c.rank_before-before.ensures ∙ before_is a.c _ left in
    rw
    (no_room judge a.s.now a.c _ _ c.close-left.ensures c.if-count-eq0.false c.if-inner-at.false (sym c.is_inside.ensures ∙ c.if-not-is_inside.false)
    (sym c.find.ensures ∙ ap judged c.in-Ok.is) _ before (sym c.has_room.ensures ∙ c.if-not-has_room.true))
    refl

-- The ranks are low.
pub returns : goal.returns
returns g c =
    let a = c.args in
    let judge = g.J.Judges.finds a.by.now (layout_of a.edition) in
    let lies = sym c.is_inside.ensures ∙ c.if-not-is_inside.false in
    let j = sym c.find.ensures ∙ ap judged c.in-Ok.is in
    let left = leaves judge a.s.now a.c _ _ c.close-left.ensures in
    let before = ap suc c.rank_before-before.ensures ∙ before_is a.c _ left in
    let room = sym c.has_room.ensures ∙ c.if-not-has_room.false in
    let fits : length a.s.now < 18446744073709551616 = omega arith in
    let follow = following judge a.s.now a.c _ _ c.close-left.ensures c.if-count-eq0.false c.if-inner-at.false lies j _ before room fits in
    rw
    (← enters_found judge a.s.now a.c _ _ c.close-left.ensures c.if-count-eq0.false c.if-inner-at.false lies j _ before room _ _ (add-one _)
    (c.next_rank.ensures ∙ from_is _ _ _ follow))
    refl
