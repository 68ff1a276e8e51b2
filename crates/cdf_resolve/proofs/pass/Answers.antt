-- The units are met as they come, each with the one behind it.
use Rattle.std.proofs.Common.{refl, ap, ◌∙◌, length}
use lib.Seq.{length-sets}
use Rattle.cdf_unit_prefix.specs.Layout.{edition_of, layout_for}
use Rattle.cdf_unit_data.specs.Standing.{name_row}
use Rattle.cdf_grammar.proofs.Proved.{proved as grammar}
use Rattle.cdf_check.proofs.Exact.{bytes_of}
use Rattle.cdf_resolve_spec.proofs.Pairing.{orderly}
use Rattle.cdf_resolve.proofs.Walking.{walk_begun, walk_over, walk_ready, walk_lies, walk_less, walk_on}
use Rattle.cdf_resolve.proofs.pass.Goals as goal

pub loop-next-init : goal.loop-next-init
unfolding name_row
loop-next-init c =
    let s = c.args.s.now in
    let tree = ((grammar.streams (edition_of s)).exactly s (bytes_of s (λ i. (c.type_inv.s i).fits))).0 c.requires.0 in
    let o = orderly (edition_of s) s tree.0 tree.1 in
    let group = c.requires.1 in
    let d = c.default-t.ensures in
    let is = rw c.edition_of-edition.ensures at c.first_as-next.ensures in (
      o,
      group,
      walk_begun _ s o group _ _ c.default-t.result _ refl (d.0, d.1.0, d.1.1) _ is,
      refl,
    )

pub meet-t-requires : goal.meet-t-requires
meet-t-requires c =
    let s = c.args.s.now in
    let l = layout_for s in
    let i = c.loop-next.invariant in (
      walk_ready l s i.0 i.1 _ _ _ _ _ _ i.2 c.in-Ok.a c.in-Ok.is,
      walk_lies l s i.0 i.1 _ _ _ _ _ _ i.2 c.in-Ok.a c.in-Ok.is,
    )

pub loop-next-smaller : goal.loop-next-smaller
loop-next-smaller c =
    let s = c.args.s.now in
    let i = c.loop-next.invariant in
    walk_less (layout_for s) s i.0 i.1 _ _ _ _ _ _ i.2 c.in-Ok.a c.in-Ok.is _ i.3 c.advance-next.result
    (rw c.edition_of-edition.ensures at c.advance-next.ensures)

pub loop-next-preserved : goal.loop-next-preserved
loop-next-preserved c =
    let s = c.args.s.now in
    let i = c.loop-next.invariant in (
      i.0,
      i.1,
      walk_on (layout_for s) s i.0 i.1 _ _ _ _ _ _ i.2 c.in-Ok.a c.in-Ok.is _ i.3 c.advance-next.result
          (rw c.edition_of-edition.ensures at c.advance-next.ensures) _ _ _ c.meet-t.ensures,
      i.3,
    )

pub shape_of-list : goal.shape_of-list
shape_of-list c = let w = c.loop-next.invariant.2 in ap length w.written ∙ length-sets c.args.list.now 0 w.pass.ranks

pub returns : goal.returns
returns c =
    let s = c.args.s.now in
    let i = c.loop-next.invariant in
    walk_over (layout_for s) s i.0 i.1 c.args.list.now _ _ _ _ _ i.2 c.in_default.field-0 c.in_default.is c.requires.0
