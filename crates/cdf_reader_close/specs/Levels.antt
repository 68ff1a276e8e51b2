-- A rank by its unit's level: 1 is the outermost's.
use Rattle.std.specs.Prelude.{ℕ, cond, eqb}
use Rattle.cdf_reader_spec.specs.Slots.{slot_of}
use Rattle.cdf_reader_spec.specs.declared.Ranks.{Ranks}

-- Of so many units the innermost's stands by itself.
abbrev pub rank_at : ℕ → ℕ → Ranks → ℕ
rank_at level count k = cond (eqb level count) k.top (slot_of 0 k.r1 k.r2 k.r3 level)
