-- The loop's invariant is proofs/Copying's; then proofs/Heading.
use Rattle.std.proofs.Common.{◌-◌, ap, ◌∙◌, arith, length, get_or}
use Rattle.cdf_unit_prefix.specs.Layout.{layout_of}
use Rattle.cdf_unit_table.proofs.Parts.{rest}
use Rattle.cdf_builder_write.proofs.Patching.{length_patch}
use Rattle.cdf_rescue.proofs.Runs.{run}
use Rattle.cdf_rescue.proofs.Copying.{copy_begun, Turn, turn, Last, last}
use Rattle.cdf_rescue.proofs.Heading.{all_written}
use Rattle.cdf_rescue.proofs.write_group.Goals as goal
use Rattle.cdf_rescue.proofs.write_group.Goals.{In-loop-run, After-loop-run}

next : (c : In-loop-run) →
    let t = c.loop-run in
    let a = c.args in
    Turn (layout_of a.edition) a.s.now a.out.now a.runs.now t.at t.place t.run-index t.out t.invariant (get_or a.runs.now t.run-index (run 0 0))
next c = turn _ _ _ _ _ _ _ _ c.loop-run.invariant (run 0 0) c.loop-run-test.true

end : (c : After-loop-run) →
    let t = c.loop-run in
    let a = c.args in
    Last (layout_of a.edition) a.s.now a.out.now a.runs.now t.at t.place t.run-index t.out t.invariant
end c = last _ _ _ _ _ _ _ _ c.loop-run.invariant c.loop-run-test.false

pub loop-run-init : goal.loop-run-init
loop-run-init c =
    let a = c.args in
    rw (← c.prefix-at.ensures.is) at (copy_begun (layout_of a.edition) a.s.now a.out.now a.runs.now c.requires)

pub slice_bounds-write_bytes-count : goal.slice_bounds-write_bytes-count
slice_bounds-write_bytes-count c =
    (next (goal.at.slice_bounds-write_bytes-count c).In-loop-run).low

pub slice_bounds-write_bytes-start : goal.slice_bounds-write_bytes-start
slice_bounds-write_bytes-start c =
    omega (arith, (next (goal.at.slice_bounds-write_bytes-start c).In-loop-run).low, (next (goal.at.slice_bounds-write_bytes-start c).In-loop-run).high)

pub slice_bounds-write_bytes-end : goal.slice_bounds-write_bytes-end
slice_bounds-write_bytes-end c =
    omega (arith, (next (goal.at.slice_bounds-write_bytes-end c).In-loop-run).high)

pub overflow_sub-place : goal.overflow_sub-place
overflow_sub-place c =
    (next (goal.at.overflow_sub-place c).In-loop-run).low

pub overflow_add-place : goal.overflow_add-place
overflow_add-place c =
    omega (arith, (next (goal.at.overflow_add-place c).In-loop-run).place_low)

pub loop-run-preserved : goal.loop-run-preserved
loop-run-preserved c =
    (next (goal.at.loop-run-preserved c).In-loop-run).on _ c.write_bytes.ensures

pub slice_bounds-write_bytes-count-2 : goal.slice_bounds-write_bytes-count-2
slice_bounds-write_bytes-count-2 c =
    (end (goal.at.slice_bounds-write_bytes-count-2 c).After-loop-run).low

pub slice_bounds-write_bytes-start-2 : goal.slice_bounds-write_bytes-start-2
slice_bounds-write_bytes-start-2 c =
    omega (arith, (end (goal.at.slice_bounds-write_bytes-start-2 c).After-loop-run).low)

pub overflow_sub-s : goal.overflow_sub-s
overflow_sub-s c =
    (end (goal.at.overflow_sub-s c).After-loop-run).low

pub overflow_add-place-2 : goal.overflow_add-place-2
overflow_add-place-2 c =
    let k = c.requires in
    omega (arith, (end (goal.at.overflow_add-place-2 c).After-loop-run).size, k.fits)

-- All that was written: the last bytes, the prefix, and its length.
pub returns : goal.returns
returns c =
    let done = end (goal.at.returns c).After-loop-run in
    all_written _ _ _ c.requires.fits _ _ _ _ done.size (done.all _ (simp rest at c.write_bytes-2.ensures)) c.write_unit.ensures c.write_length.ensures

pub shape_of-out : goal.shape_of-out
shape_of-out c = ap length (returns c) ∙ length_patch _ _ _
