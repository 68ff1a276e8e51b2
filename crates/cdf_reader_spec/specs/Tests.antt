-- The clauses of a place's rule taken together for one open unit, or for one and the one outside it, as the code asks them. The
-- contracts of the single tests cite this file; the rule itself is `fits`.
use Rattle.std.specs.Prelude.{ℕ, ◌+◌, Bool, ◌&&◌, List, leb, eqb}
use Rattle.cdf_unit_table.specs.States.{unit_of, nothing, root_kind, admits_kind}
use Rattle.cdf_unit_prefix.specs.Layout.{Layout, prefix_of}
use Rattle.cdf_unit_list.specs.declared.Unit.{Unit}
use Rattle.cdf_unit_list.specs.declared.Open.{Open}
use Rattle.cdf_reader_spec.specs.Place.{nested}

-- The unit spans the n bytes and is of a root's kind.
abbrev pub spans : ℕ → Open → Bool
spans n o = root_kind (unit_of o.state) && (eqb o.start 0 && eqb o.end n)

-- The second lies in the first, which admits its kind.
abbrev pub under : Layout → Open → Open → Bool
under l p o =
    admits_kind (unit_of p.state) (unit_of o.state) && (leb (p.start + prefix_of l) o.start && leb o.end p.end)

unfoldable pub chain : Layout → ℕ → List Open → Bool
unfolding nested
chain l n os = nested (spans n) (under l) os

-- The last unit is the innermost one and was just entered: it is in the first state of its id, and the position is its own end.
abbrev pub just_entered : ℕ → Open → Unit → Bool
just_entered position o u =
    eqb (nothing u.id) o.state && (eqb u.start o.start && (eqb u.end o.end && eqb position u.own))
