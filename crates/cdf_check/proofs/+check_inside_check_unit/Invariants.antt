-- The levels fall from the loop to a nested unit and stay from a unit to its loop, so the measure is twice the levels, and one more
-- for a unit; and what is left of the unit falls with each turn of the loop.
use Rattle.std.proofs.Common.{◌+◌, ◌-◌, length}
use Rattle.cdf_unit_prefix.specs.Layout.{layout_of}
use Rattle.cdf_check.proofs.Walked.{Going}
use Rattle.cdf_check.proofs.+check_inside_check_unit.Given as goal

abbrev pub decreases-check_inside : goal.decreases-check_inside
decreases-check_inside l = l.levels + l.levels

abbrev pub decreases-check_unit : goal.decreases-check_unit
decreases-check_unit l = l.levels + l.levels + 1

abbrev pub invariant-check_inside-loop-at : goal.invariant-check_inside-loop-at
invariant-check_inside-loop-at l = Going (layout_of l.edition) l.levels l.s l.first l.base l.body l.count l.at l.state l.n

abbrev pub decreases-check_inside-loop-at : goal.decreases-check_inside-loop-at
decreases-check_inside-loop-at l = length l.s - l.at
