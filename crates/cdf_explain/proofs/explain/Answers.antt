-- The loop ends, since each unit comes further.
use Rattle.std.proofs.Common.{◌≡◌, refl, ap, sym, ◌∙◌, [], ◌∷◌}
use Rattle.std.specs.Prelude.{Err}
use Rattle.cdf_refusal.specs.Numbers.{number_of}
use Rattle.cdf_refusal.specs.declared.Refusal.TheVariants.{Ended}
use Rattle.cdf_refusal.proofs.Apart.{apart, refuses}
use Rattle.cdf_unit_prefix.specs.Layout.{layout_of, layout_for}
use Rattle.cdf_unit_data.specs.Standing.{name_row}
use Rattle.cdf_reader.specs.View.{reply_of, reply_from, no_place}
use Rattle.cdf_reader.proofs.Walking.{first_inside, is_next, next_inside, fewer}
use Rattle.cdf_reader_runs.proofs.Looping.{begun, Turn, turned, over}
use Rattle.cdf_explain_spec.specs.Why.{why_of}
use Rattle.cdf_explain.specs.Numbers.{ExplainedNumbers, numbers_of, explained_by}
use Rattle.cdf_explain.specs.Parts.{told_at}
use Rattle.cdf_explain.proofs.Explaining.{Told, told_end, closed_few, some_told}
use Rattle.cdf_explain.proofs.explain.Goals as goal
use Rattle.cdf_explain.proofs.explain.Goals.{In-Err, After-advance-next}

pub loop-next-init : goal.loop-next-init
unfolding name_row
loop-next-init c =
    let l = layout_of c.edition_of-edition.result in
    let s = c.args.s.now in (
      ([], rw (c.from-place.ensures, c.no_cursor.ensures) (begun l s (reply_from no_place c.first_as-next.result) c.first_as-next.ensures)),
      first_inside l s _ c.first_as-next.ensures,
      refl,
    )

-- What is told where the loop ends.
end_of : (c : In-Err) → Told (layout_of c.edition_of-edition.result) c.args.s.now (reply_from c.loop-next.place (Err c.in-Err.fault))
end_of c =
    let s = c.args.s.now in
    let g = c.loop-next.invariant.0 in
    let a = reply_from c.loop-next.place (Err c.in-Err.fault) in
    told_end _ s g.0 a (over _ s g.0 a (rw c.in-Err.is at g.1) (refuses c.in-Err.fault.refusal))

-- A unit was handed out; so the place fits, and the step by 01's row is NEXT.
here : (c : After-advance-next) → Turn (layout_of c.edition_of-edition.result) c.args.s.now c.loop-next.invariant.0.0 (reply_of c.in-Ok.a)
here c = turned _ c.args.s.now c.loop-next.invariant.0.0 (reply_of c.in-Ok.a) (rw c.in-Ok.is at c.loop-next.invariant.0.1) refl

pub loop-next-smaller : goal.loop-next-smaller
loop-next-smaller c =
    let stepped = (goal.at.loop-next-smaller c).After-advance-next in
    let i = c.loop-next.invariant in
    rw c.in-Ok.is
    (fewer _ c.args.s.now c.in-Ok.a (here stepped).fit _ i.2 c.advance-next.result c.advance-next.ensures (i.1 c.in-Ok.a c.in-Ok.is))

pub loop-next-preserved : goal.loop-next-preserved
loop-next-preserved c =
    let stepped = (goal.at.loop-next-preserved c).After-advance-next in
    let i = c.loop-next.invariant in
    let a = c.in-Ok.a in (
      (
        a.handed.unit ∷ i.0.0,
        rw (is_next _ c.args.s.now a (here stepped).fit _ i.2 c.advance-next.result c.advance-next.ensures) (here stepped).next,
      ),
      next_inside _ c.args.s.now a (here stepped).fit _ i.2 c.advance-next.result c.advance-next.ensures,
      i.2,
    )

pub tell-requires : goal.tell-requires
tell-requires c = closed_few _ _ _ _ _ _ c.close-left.ensures (end_of (goal.at.tell-requires c).In-Err).few

pub returns-in-Ended : goal.returns-in-Ended
unfolding explained_by
returns-in-Ended c =
    let none = (end_of (goal.at.returns-in-Ended c).In-Err).accepted (ap number_of c.in-Ended.is) in
    record { is = rw (← c.edition_of-edition.ensures, none); accepted = rw (← c.edition_of-edition.ensures, none) (λ e. refl, λ z. refl) }

pub returns-in_default : goal.returns-in_default
unfolding explained_by told_at
returns-in_default c =
    let f = c.in-Err.fault in
    let why = why_of (layout_for c.args.s.now) c.args.s.now in
    let is : numbers_of c.tell.result ≡ explained_by why =
    c.tell.ensures ∙ ap (told_at (number_of f.refusal) f.offset) c.close-left.ensures
    ∙ rw (← c.edition_of-edition.ensures)
    (sym ((end_of (goal.at.returns-in_default c).In-Err).told (λ z. c.in_default.not-Ended (apart f.refusal Ended z)))) in
    let number : number_of f.refusal ≡ why.number = ap (λ (e : ExplainedNumbers). e.number) (sym c.tell.ensures ∙ is) in
    record { is = is; accepted = some_told c.tell.result _ (λ z. refuses f.refusal (number ∙ z)) }
