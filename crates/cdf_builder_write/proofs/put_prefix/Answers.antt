-- The mark, the length in the tail behind it, and then the action and the id.
use Rattle.std.proofs.Common.{◌≡◌, ◌∙◌, List, ℕ, ◌+◌, ◌-◌, arith, length, set, length-set, length-drop}
use borrow.Rule.Slice.PartMut.{put_mid}
use Rattle.cdf_unit_prefix.specs.Layout.{layout_of}
use Rattle.cdf_unit_table.proofs.Parts.{rest}
use Rattle.cdf_grammar.specs.Encoding.{bytes_of}
use Rattle.cdf_builder_copy.proofs.Lent.{lent}
use Rattle.cdf_builder_write.proofs.Lent.{prefix_stored}
use Rattle.cdf_builder_write.proofs.put_prefix.Goals as goal

-- with the mark
abbrev marked : goal.After-second_mark-mark → List ℕ
marked c = set (set c.args.tail.now 0 0xcd) 1 c.second_mark-mark.result

marked_long : (c : goal.After-second_mark-mark) → length (marked c) ≡ length c.args.tail.now
marked_long c = simp length-set

-- with the length too
abbrev numbered : goal.After-slice_known-2-1 → List ℕ
numbered c =
    let put = c.before.before in
    let s = marked put.before.before in
    put_mid 2 (length s - 2) s c.put_number.new.tail

numbered_long : (c : goal.After-slice_known-2-1) →
    length (numbered c) ≡ length c.args.tail.now
numbered_long c = c.tail-1.given.1 ∙ marked_long c.before.before.before.before

pub bounds-tail-1 : goal.bounds-tail-1
bounds-tail-1 c = simp length-set (omega arith)

pub slice_bounds-put_number-count : goal.slice_bounds-put_number-count
slice_bounds-put_number-count c = simp length-set (omega arith)

pub slice_bounds-put_number-start : goal.slice_bounds-put_number-start
slice_bounds-put_number-start c = simp length-set (omega arith)

pub put_number-requires : goal.put_number-requires
put_number-requires c =
    let s = marked c.before in
    rw (rest 2 s, length-drop 2 s) (omega (arith, marked_long c.before))

pub bounds-tail-width : goal.bounds-tail-width
bounds-tail-width c = omega (arith, numbered_long c)

pub bounds-tail-width-2 : goal.bounds-tail-width-2
bounds-tail-width-2 c =
    let a = c.args in
    omega (arith, numbered_long c, length-set (numbered c) (c.length_bytes-width.result + 2) a.action)

pub shape_of-tail : goal.shape_of-tail
shape_of-tail c =
    let a = c.args in
    let k = c.length_bytes-width.result in
    length-set (set (numbered c) (k + 2) a.action) (k + 3) a.id ∙ length-set (numbered c) (k + 2) a.action ∙ numbered_long c

pub returns : goal.returns
returns c =
    let put = c.before.before in
    let mark = put.before.before in
    let a = c.args in
    let k = c.length_bytes-width.result in
    rw (
      lent 2 k (bytes_of k a.len) (marked mark) c.put_number.new.tail c.put_number.ensures,
      c.length_bytes-width.ensures.is,
      c.second_mark-mark.ensures,
    )
    (prefix_stored (layout_of a.edition) a.len a.action a.id a.tail.now c.requires)
