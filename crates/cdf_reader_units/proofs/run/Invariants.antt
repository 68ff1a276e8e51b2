-- The loop keeps `Running` (proofs/Filling), and the row is 01's.
use Rattle.std.proofs.Common.{◌≡◌}
use Rattle.cdf_unit_data.specs.Standing.{name_row}
use Rattle.cdf_reader_units.proofs.Filling.{Running}
use Rattle.cdf_reader_units.proofs.run.Given as goal

abbrev pub invariant-loop-count : goal.invariant-loop-count
invariant-loop-count l = Running l.s l.initial.place l.initial.list l.list l.place l.count × (l.row ≡ name_row)
