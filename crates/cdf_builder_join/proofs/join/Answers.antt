-- The loop keeps `Going` (proofs/Joins).
use Rattle.std.proofs.Common.{sym, ◌∙◌, arith}
use Rattle.cdf_unit_table.proofs.Options.{none_told, some_told}
use Rattle.cdf_builder_join.proofs.Parts.{around_is}
use Rattle.cdf_builder_join.proofs.Joins.{begins, on, found, none}
use Rattle.cdf_builder_join.proofs.join.Goals as goal

pub loop-left-init : goal.loop-left-init
loop-left-init c = begins _ _

pub returns-then-full : goal.returns-then-full
returns-then-full c =
    let told = some_told _ _ (sym c.state_after.ensures ∙ c.in-Some.is) in
    let w = found _ _ _ c.loop-left.invariant (omega arith) _ told.0 told.1 in
    record { number = sym (rw c.if-full.true at w.0); left = w.1 }

pub returns-in-Some : goal.returns-in-Some
returns-in-Some c =
    let told = some_told _ _ (sym c.state_after.ensures ∙ c.in-Some.is) in
    let w = found _ _ _ c.loop-left.invariant (omega arith) _ told.0 told.1 in
    record { number = sym (rw c.if-full.false at w.0); left = w.1 }

pub loop-left-preserved : goal.loop-left-preserved
loop-left-preserved c =
    on _ _ _ c.loop-left.invariant (omega arith) (none_told _ (sym c.state_after.ensures ∙ c.in_default.is)) _
    c.is_complete-full.ensures _ (around_is c.args.units c.loop-left.left c.around.ensures c.default.ensures c.unwrap_or-inner.ensures)

pub returns : goal.returns
returns c =
    let w = none _ _ _ c.loop-left.invariant (omega arith) in
    record { number = sym w.0; left = w.1 }
