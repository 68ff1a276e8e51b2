-- Each return by the laws of proofs/Answering.
use Rattle.std.proofs.Common.{◌+◌, ◌≤◌, ◌≡◌, sym, ◌∙◌, arith, length}
use lib.Seq.{take-append_seam}
use Rattle.std.proofs.lemmas.Result.{err_from_is_err_and}
use Rattle.cdf_refusal.specs.Numbers.{number_of}
use Rattle.cdf_refusal.specs.declared.Refusal.TheVariants.{Short, NothingKept, TooLong, NoRoom}
use Rattle.cdf_unit_prefix.specs.Layout.{layout_of, prefix_of}
use Rattle.cdf_rescue_spec.specs.Salvage.{pieces, runs_of}
use Rattle.cdf_rescue.specs.Parts.{kept_of}
use Rattle.cdf_rescue.proofs.Answering.{few_bytes, nothing_kept, many_runs, long_group, no_room, done, refuses, reports}
use Rattle.cdf_rescue.proofs.rescue_as.Goals as goal
use Rattle.cdf_rescue.proofs.rescue_as.Goals.{Else-s-first, Else-found-eq0, Else-limit-size}

pub returns-then-s-first : goal.returns-then-s-first
returns-then-s-first c =
    let all = refuses _ _ _ Short (few_bytes _ _ _ (omega (arith, c.if-s-first.true, c.prefix-first.ensures.is))) in
    record { is = all.0; bytes = all.1 }

-- Past the first test the bytes are enough for a prefix.
enough : (c : Else-s-first) → prefix_of (layout_of c.args.edition) ≤ length c.args.s.now
enough c = omega (arith, c.if-s-first.false, c.prefix-first.ensures.is)

pub scan-requires : goal.scan-requires
scan-requires c = enough c

pub returns-in_err-found : goal.returns-in_err-found
returns-in_err-found c =
    let at = goal.at.returns-in_err-found c in
    let p = err_from_is_err_and c.from_residual.result c.from_residual.ensures.1 in
    let w = c.in_err-found.ensures in
    let all = refuses _ _ _ c.in_err-found.field-0.0 (rw w.is (many_runs _ _ _ (enough at.Else-s-first) w.some w.more)) in
    record { is = rw (p.1, p.2) all.0; bytes = all.1 }

pub returns-then-found-eq0 : goal.returns-then-found-eq0
returns-then-found-eq0 c =
    let at = goal.at.returns-then-found-eq0 c in
    let none = sym c.in_ok-found.ensures.kept ∙ c.if-found-eq0.true in
    let all = refuses _ _ _ NothingKept (nothing_kept _ _ _ (enough at.Else-s-first) none) in
    record { is = all.0; bytes = all.1 }

pub overflow_add-size : goal.overflow_add-size
overflow_add-size c = omega (arith, c.in_ok-found.ensures.within, c.prefix-first.ensures.near.1)

-- Something is kept, in a few runs.
some : (c : Else-found-eq0) → length (kept_of (layout_of c.args.edition) c.args.s.now) ≡ 0 → ⊥
some c z = c.if-found-eq0.false (c.in_ok-found.ensures.kept ∙ z)

few_runs : (c : Else-found-eq0) → length (runs_of (pieces (layout_of c.args.edition) c.args.s.now)) ≤ 64
few_runs c = let w = c.in_ok-found.ensures in omega (arith, w.count, w.few)

size_is : (c : Else-found-eq0) →
    let l = layout_of c.args.edition in
    c.prefix-first.result + c.in_ok-found.found.kept ≡ prefix_of l + length (kept_of l c.args.s.now)
size_is c = omega (arith, c.in_ok-found.ensures.kept, c.prefix-first.ensures.is)

-- The group is within the limit.
within : (c : Else-limit-size) →
    let l = layout_of c.args.edition in
    prefix_of l + length (kept_of l c.args.s.now) ≤ l.limit
within c = omega (arith, c.if-limit-size.false, c.limit.ensures, c.in_ok-found.ensures.kept, c.prefix-first.ensures.is)

pub returns-then-limit-size : goal.returns-then-limit-size
returns-then-limit-size c =
    let at = goal.at.returns-then-limit-size c in
    let all = refuses _ _ _ TooLong (long_group _ _ _ (enough at.Else-s-first) (some at.Else-found-eq0) (few_runs at.Else-found-eq0)
    (omega (arith, c.if-limit-size.true, c.limit.ensures, size_is at.Else-found-eq0))) in
    record { is = all.0; bytes = all.1 }

pub returns-then-out-size : goal.returns-then-out-size
returns-then-out-size c =
    let at = goal.at.returns-then-out-size c in
    let all = refuses _ _ _ NoRoom (no_room _ _ _ (enough at.Else-s-first) (some at.Else-found-eq0) (few_runs at.Else-found-eq0) (within at.Else-limit-size)
    (omega (arith, c.if-out-size.true, size_is at.Else-found-eq0))) in
    record { is = all.0; bytes = all.1 }

pub write_group-requires : goal.write_group-requires
write_group-requires c =
    let at = goal.at.write_group-requires c in
    let w = c.in_ok-found.ensures in
    record {
      all = rw (w.runs, w.count) (take-append_seam (runs_of (pieces (layout_of c.args.edition) c.args.s.now)) _);
      prefix = enough at.Else-s-first;
      fits = omega (arith, c.if-out-size.false, size_is at.Else-found-eq0);
    }

pub returns : goal.returns
returns c =
    let at = goal.at.returns c in
    let l = layout_of c.args.edition in
    let s = c.args.s.now in
    let w = c.in_ok-found.ensures in
    let room = length c.args.out.now in
    let is = done l s room (enough at.Else-s-first) (some at.Else-found-eq0) (few_runs at.Else-found-eq0) (within at.Else-limit-size)
    (omega (arith, c.if-out-size.false, size_is at.Else-found-eq0)) in
    record { is = reports l s room _ is (size_is at.Else-found-eq0) w.count w.runs; bytes = rw is c.write_group.ensures }
