-- What a unit in one state may be, by the table of units.
use Rattle.std.specs.Prelude.{ℕ, Bool}
use Rattle.cdf_unit_table.specs.States.{unit_of, root_kind, admits_kind}

-- A root.
abbrev pub may_root : ℕ → Bool
may_root a = root_kind (unit_of a)

-- One in which a unit in the second state may stand.
abbrev pub may_hold : ℕ → ℕ → Bool
may_hold a b = admits_kind (unit_of a) (unit_of b)
