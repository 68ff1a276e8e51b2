-- The loop's invariant: every byte passed may stand in a name.
use Rattle.std.proofs.Common.{◌-◌, length}
use Rattle.cdf_unit_data.specs.Standing.{row_bytes}
use Rattle.cdf_unit_data.proofs.Names.{Run}
use Rattle.cdf_unit_name.proofs.name_front.Given as goal

abbrev pub invariant-loop-i : goal.invariant-loop-i
invariant-loop-i l = Run (row_bytes l.row) l.s l.i

abbrev pub decreases-loop-i : goal.decreases-loop-i
decreases-loop-i l = length l.s - l.i
