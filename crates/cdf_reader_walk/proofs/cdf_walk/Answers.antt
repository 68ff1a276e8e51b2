-- The loop ends, since each unit comes further.
use Rattle.std.proofs.Common.{refl, ◌∙◌}
use Rattle.std.specs.Prelude.{Err}
use Rattle.cdf_refusal.proofs.Apart.{refuses}
use Rattle.cdf_unit_prefix.specs.Layout.{layout_of}
use Rattle.cdf_unit_data.specs.Standing.{name_row}
use Rattle.cdf_reader.specs.View.{reply_of, reply_from, no_place}
use Rattle.cdf_reader.proofs.Walking.{first_inside, is_next, next_inside, fewer}
use Rattle.cdf_reader_runs.proofs.Folding.{begun, Turn, turned}
use Rattle.cdf_reader_walk.specs.Fold.{mix_of}
use Rattle.cdf_reader_walk.proofs.Walking.{ended_walk}
use Rattle.cdf_reader_walk.proofs.cdf_walk.Goals as goal
use Rattle.cdf_reader_walk.proofs.cdf_walk.Goals.{After-advance-next}

pub loop-next-init : goal.loop-next-init
unfolding name_row
loop-next-init c =
    let l = layout_of c.edition_of-edition.result in
    let s = c.args.s.now in (
      (no_place, begun mix_of l s 0 (reply_from no_place c.first_as-next.result) c.first_as-next.ensures),
      first_inside l s _ c.first_as-next.ensures,
      refl,
    )

-- A unit was handed out; so the place fits, and the step by the row is NEXT.
here : (c : After-advance-next) → Turn mix_of (layout_of c.edition_of-edition.result) c.args.s.now 0 (reply_of c.in-Ok.a) c.loop-next.h
here c = turned mix_of _ c.args.s.now 0 (reply_of c.in-Ok.a) c.loop-next.h (rw c.in-Ok.is at c.loop-next.invariant.0.1) refl

pub loop-next-smaller : goal.loop-next-smaller
loop-next-smaller c =
    let stepped = (goal.at.loop-next-smaller c).After-advance-next in
    let i = c.loop-next.invariant in
    rw c.in-Ok.is
    (fewer _ c.args.s.now c.in-Ok.a (here stepped).fit _ i.2 c.advance-next.result c.advance-next.ensures (i.1 c.in-Ok.a c.in-Ok.is))

pub loop-next-preserved : goal.loop-next-preserved
loop-next-preserved c =
    let stepped = (goal.at.loop-next-preserved c).After-advance-next in
    let i = c.loop-next.invariant in
    let next = is_next _ c.args.s.now c.in-Ok.a (here stepped).fit _ i.2 c.advance-next.result c.advance-next.ensures in (
      (c.in-Ok.a.place, rw (next, c.mix-h.ensures) (here stepped).next),
      next_inside _ c.args.s.now c.in-Ok.a (here stepped).fit _ i.2 c.advance-next.result c.advance-next.ensures,
      i.2,
    )

pub returns-in-Err : goal.returns-in-Err
returns-in-Err c =
    let i = c.loop-next.invariant in
    let f = c.in-Err.fault in
    rw (← c.edition_of-edition.ensures)
    (c.mix_end.ensures
    ∙ ended_walk _ c.args.s.now (reply_from i.0.0 (Err f)) c.loop-next.h (rw c.in-Err.is at i.0.1) (refuses f.refusal))
