-- By the call's answer, which decides: the group's bytes, or the empty part at the front.
use Rattle.std.proofs.Common.{refl, sym, ap, ◌∙◌, arith, rules}
use Rattle.cdf_refusal.proofs.Apart.{refuses}
use Rattle.cdf_reader_spec.specs.Calls.{Reply}
use Rattle.cdf_reader.proofs.Passing.{part_none, part_some, part_within}
use Rattle.cdf_reader.proofs.get_stream.Goals as goal

-- Where a group is taken, it lies in the bytes.
pub slice_bounds-result-count : goal.slice_bounds-result-count
slice_bounds-result-count c =
    let lies = part_within _ _ _ (sym (ap (λ (r : Reply). r.number) c.in-Ok.ensures)) in
    omega (arith, lies)

pub slice_bounds-result-start : goal.slice_bounds-result-start
slice_bounds-result-start c =
    let lies = part_within _ _ _ (sym (ap (λ (r : Reply). r.number) c.in-Ok.ensures)) in
    omega (arith, lies)

pub slice_bounds-result-end : goal.slice_bounds-result-end
slice_bounds-result-end c =
    let lies = part_within _ _ _ (sym (ap (λ (r : Reply). r.number) c.in-Ok.ensures)) in
    omega (arith, lies)

pub returns-in-Ok : goal.returns-in-Ok
returns-in-Ok c =
    rw (part_some _ _ _ (sym (ap (λ (r : Reply). r.number) c.in-Ok.ensures))) (record { bytes = refl; stands = (refl, search rules) })

pub returns-in-Err : goal.returns-in-Err
returns-in-Err c =
    rw (part_none _ _ _ (λ z. refuses c.in-Err.field-0.refusal (ap (λ (r : Reply). r.number) c.in-Err.ensures ∙ z)))
    (record { bytes = refl; stands = (refl, search rules) })
