-- How deep the last unit of a cursor stands, by the code's test alone.
use Rattle.std.specs.Prelude.{ℕ, ◌+◌, ◌-◌, ◌^◌, min, cond, eqb}
use Rattle.cdf_reader_cursor.specs.declared.Cursor.{Cursor}

-- At any cursor: as many as are open where the innermost one starts where the last unit does, else one more, or the largest number of 64 bits.
abbrev pub depth_by : Cursor → ℕ
depth_by c = cond (eqb c.units.top.start c.last.start) c.units.count (min (c.units.count + 1) (2 ^ 64 - 1))
