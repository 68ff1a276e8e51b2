-- Each return by its law (proofs/Faults).
use Rattle.std.proofs.Common.{refl, sym}
use Rattle.std.proofs.lemmas.Result.{err_from_is_err_and}
use Rattle.cdf_unit_table.proofs.Options.{told_none, told_one}
use Rattle.cdf_unit_table.proofs.Rows.{opens_by, leaf_by}
use Rattle.cdf_builder_faults.proofs.Faults.{fault_told, fault_leaf, fault_whole, fault_more}
use Rattle.cdf_builder_faults.proofs.own_fault.Goals as goal
use Rattle.cdf_builder_faults.proofs.own_fault.Goals.{then-is_none-via-then-is_none, then-is_none-via-else-is_none+then-k-data}

pub returns-in_err-k : goal.returns-in_err-k
returns-in_err-k c =
    let p = err_from_is_err_and c.from_residual.result c.from_residual.ensures.1 in
    rw (p.1, p.2) (sym (fault_told _ _ _ c.in_err-k.field-0.0 c.in_err-k.ensures))

pub returns-then-is_none : goal.returns-then-is_none
returns-then-is_none c =
    let body = sym c.in_ok-k.ensures in
    elim c.then-is_none.branch [
      | then-is_none-via-then-is_none w ↦
          sym (fault_leaf _ _ _ body (leaf_by _ _ refl (told_none _ c.first_state.ensures (rw w.if-is_none.true at c.is_none.ensures))))
      | then-is_none-via-else-is_none+then-k-data w ↦ sym (fault_whole _ _ _ body w.if-k-data.true)
    ]

pub returns : goal.returns
returns c =
    sym (fault_more _ _ _ (sym c.in_ok-k.ensures) (opens_by _ _ refl
    (told_one _ c.first_state.ensures (rw c.if-is_none.false at c.is_none.ensures))) c.if-k-data.false)
