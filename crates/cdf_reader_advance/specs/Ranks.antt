-- The rank before the next unit's, and that one's own, by the parts of a cursor of which so many units are left open.
use Rattle.std.specs.Prelude.{ℕ, suc, cond, eqb, leb, ltb}
use Rattle.cdf_reader_close.specs.Levels.{rank_at}
use Rattle.cdf_reader_cursor.specs.declared.Cursor.{Cursor}

-- Of the outermost unit that closes, else of the last one.
abbrev pub rank_before : Cursor → ℕ → ℕ
rank_before c left = cond (leb c.units.count left) c.ranks.last (rank_at (suc left) c.units.count c.ranks)

-- The highest that a field can hold: none comes after it.
abbrev pub highest : ℕ
highest = 18446744073709551615

-- After the one before, where a unit closes; else the first, where the last unit is the innermost by its start.
abbrev pub rank_from : Cursor → ℕ → ℕ → ℕ
rank_from c left before =
    cond (eqb before highest) highest
    (cond (ltb left c.units.count) (suc before) (cond (eqb c.last.start c.units.top.start) 0 (suc before)))
