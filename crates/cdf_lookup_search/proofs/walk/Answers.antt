-- The units are folded as they come, and what was found lies in the bytes.
use Rattle.std.proofs.Common.{◌≡◌, refl, sym, ap, ◌∙◌, length}
use Rattle.std.specs.Prelude.{Err}
use Rattle.cdf_refusal.specs.Numbers.{number_of}
use Rattle.cdf_refusal.specs.declared.Refusal.TheVariants.{Ended}
use Rattle.cdf_refusal.proofs.Apart.{apart, refuses}
use Rattle.cdf_unit_prefix.specs.Layout.{layout_of}
use Rattle.cdf_unit_data.specs.Standing.{name_row}
use Rattle.cdf_reader.specs.View.{reply_of, reply_from, no_place}
use Rattle.cdf_reader.proofs.Walking.{first_inside, is_next, next_inside, fewer}
use Rattle.cdf_reader_runs.proofs.Folding.{begun, Turn, turned}
use Rattle.cdf_lookup_spec.specs.Told.{query_of}
use Rattle.cdf_lookup_spec.specs.Search.{advance_of}
use Rattle.cdf_lookup_spec.specs.declared.Search.TheVariants.{Seeking}
use Rattle.cdf_lookup_search.proofs.Searched.{nowhere, seek, lies_in, stays, goes_on, keeps_place, accepted, refused}
use Rattle.cdf_lookup_search.proofs.walk.Goals as goal
use Rattle.cdf_lookup_search.proofs.walk.Goals.{then-not-is_over, else-not-is_over}

pub loop-next-init : goal.loop-next-init
unfolding name_row
loop-next-init c =
    let l = layout_of c.edition_of-edition.result in
    let s = c.args.s.now in (
      (no_place, begun _ l s Seeking (reply_from no_place c.first_as-next.result) c.first_as-next.ensures),
      first_inside l s _ c.first_as-next.ensures,
      nowhere (length s),
      refl,
    )

pub advance-state-requires : goal.advance-state-requires
advance-state-requires c =
    let l = layout_of c.edition_of-edition.result in
    let s = c.args.s.now in
    let q = query_of c.args.asked in
    let a = reply_of c.in-Ok.a in
    lies_in l s q a c.loop-next.state (turned (seek l s q) l s Seeking a c.loop-next.state (rw c.in-Ok.is at c.loop-next.invariant.0.1) refl)

pub loop-next-smaller : goal.loop-next-smaller
loop-next-smaller c =
    let l = layout_of c.edition_of-edition.result in
    let s = c.args.s.now in
    let q = query_of c.args.asked in
    let a = c.in-Ok.a in
    let i = c.loop-next.invariant in
    let hand : Turn (seek l s q) l s Seeking (reply_of a) c.loop-next.state =
    turned (seek l s q) l s Seeking (reply_of a) c.loop-next.state (rw c.in-Ok.is at i.0.1) refl in
    rw c.in-Ok.is (fewer l s a hand.fit _ i.3 c.advance-next.result c.advance-next.ensures (i.1 a c.in-Ok.is))

-- The place fits, so a step from it by the row is NEXT; and the unit was folded in, or the search is over.
pub loop-next-preserved : goal.loop-next-preserved
loop-next-preserved c =
    let l = layout_of c.edition_of-edition.result in
    let s = c.args.s.now in
    let q = query_of c.args.asked in
    let a = c.in-Ok.a in
    let i = c.loop-next.invariant in
    let state = c.loop-next.state in
    let hand : Turn (seek l s q) l s Seeking (reply_of a) state = turned (seek l s q) l s Seeking (reply_of a) state (rw c.in-Ok.is at i.0.1) refl in
    let next = is_next l s a hand.fit _ i.3 c.advance-next.result c.advance-next.ensures in
    let folded : c.if-not-is_over.state ≡ advance_of l s q state a.handed.unit =
    elim c.if-not-is_over.branch [
      | then-not-is_over w ↦ w.state-is ∙ w.advance-state.ensures
      | else-not-is_over w ↦ w.state-is ∙ stays l s q state a.handed.unit (sym c.is_over.ensures ∙ w.if-not-is_over.false)
    ] in (
      (a.place, rw next (goes_on l s q (reply_of a) state hand _ folded)),
      next_inside l s a hand.fit _ i.3 c.advance-next.result c.advance-next.ensures,
      keeps_place l s q (reply_of a) state hand _ folded i.2,
      i.3,
    )

pub returns-in-Ended : goal.returns-in-Ended
returns-in-Ended c =
    let s = c.args.s.now in
    let q = query_of c.args.asked in
    let is = c.outcome.ensures in
    let i = c.loop-next.invariant in
    let l = layout_of c.edition_of-edition.result in
    let group = c.is_group-group.ensures.listed l s c.first_as-next.ensures in
    rw (← c.edition_of-edition.ensures) (record {
      is = rw is (accepted l s q (reply_from i.0.0 (Err c.in-Err.fault)) c.loop-next.state (rw c.in-Err.is at i.0.1) _ group (ap number_of c.in-Ended.is));
      placed = rw is i.2;
    })

pub returns-in_default : goal.returns-in_default
returns-in_default c =
    let s = c.args.s.now in
    let q = query_of c.args.asked in
    let is = c.outcome.ensures in
    let i = c.loop-next.invariant in
    let l = layout_of c.edition_of-edition.result in
    let group = c.is_group-group.ensures.listed l s c.first_as-next.ensures in
    let f = c.in-Err.fault in
    rw (← c.edition_of-edition.ensures) (record {
      is =
          rw is
          (refused l s q (reply_from i.0.0 (Err f)) c.loop-next.state (rw c.in-Err.is at i.0.1) (refuses f.refusal)
          (λ z. c.in_default.not-Ended (apart f.refusal Ended z)) _ group f.refusal refl);
      placed = rw is i.2;
    })
