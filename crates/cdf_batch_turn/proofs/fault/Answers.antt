-- Test by test.
use Rattle.std.proofs.Common.{◌≤◌, ◌<◌, ◌≡◌, arith, rules, ne_eqb, lt-ltb, le-ltb}
use Rattle.std.specs.Prelude.{Err}
use Rattle.cdf_refusal.specs.Numbers.{number_of}
use Rattle.cdf_refusal.proofs.Apart.{refuses}
use Rattle.cdf_unit_prefix.specs.Layout.{layout_of}
use Rattle.cdf_unit_prefix.specs.declared.Edition.TheVariants.{First}
use Rattle.cdf_batch_turn.proofs.fault.Goals as goal

pub returns-then-limit-written : goal.returns-then-limit-written
returns-then-limit-written c =
    let a = c.args in
    let high : (layout_of First).limit < a.written = omega (arith, c.limit.ensures, c.if-limit-written.true) in
    rw (lt-ltb (layout_of First).limit a.written high)

pub returns-in-Writing : goal.returns-in-Writing
returns-in-Writing c =
    let a = c.args in
    let low : a.written ≤ (layout_of First).limit = omega (arith, c.limit.ensures, c.if-limit-written.false) in
    rw (le-ltb (layout_of First).limit a.written low, c.in-Writing.is)

pub returns-in_err-own_fault-in-Judging : goal.returns-in_err-own_fault-in-Judging
returns-in_err-own_fault-in-Judging c =
    let a = c.args in
    let e = c.in_err-own_fault-in-Judging.field-0.0 in
    let told : c.from_residual.result ≡ Err e = search rules in
    let low : a.written ≤ (layout_of First).limit = omega (arith, c.limit.ensures, c.if-limit-written.false) in
    rw (
      told,
      c.in-Judging.is,
      le-ltb (layout_of First).limit a.written low,
      ← c.in_err-own_fault-in-Judging.ensures,
      ne_eqb (number_of e) 0 (refuses e),
    )

pub returns-in_ok-own_fault-in-Judging : goal.returns-in_ok-own_fault-in-Judging
returns-in_ok-own_fault-in-Judging c =
    let a = c.args in
    let low : a.written ≤ (layout_of First).limit = omega (arith, c.limit.ensures, c.if-limit-written.false) in
    rw (
      c.in-Judging.is,
      le-ltb (layout_of First).limit a.written low,
      ← c.in_ok-own_fault-in-Judging.ensures,
      ← c.prefix.ensures.is,
    ) c.room.ensures
