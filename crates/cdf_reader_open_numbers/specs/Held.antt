-- What the fit test of a place's numbers asks: of the units that are open, and of the one handed out last. No contract of a function for C cites
-- this file.
use Rattle.std.specs.Prelude.{ℕ, ◌+◌, Bool, cond, ◌&&◌, leb}
use Rattle.cdf_unit_prefix.specs.Layout.{Layout, prefix_of}
use Rattle.cdf_reader_spec.specs.Place.{every}
use Rattle.cdf_reader_spec.specs.Slots.{open_units, open_ranks}
use Rattle.cdf_reader_spec.specs.Tests.{chain, just_entered}
use Rattle.cdf_reader.specs.declared.Place.{Place}

-- So many of a place's open units lie in one another and span n bytes, and no rank of theirs is above the highest.
unfoldable pub held : Layout → ℕ → ℕ → Place → ℕ → Bool
unfolding chain open_units open_ranks every
held l n most p count =
    chain l n (open_units count p.units.top p.units.o1 p.units.o2 p.units.o3) && every (λ k. leb k most) (open_ranks count p.ranks)

-- The last unit was just entered, where it may be skipped, and else its bounds stand in their order.
abbrev pub lasts : Layout → ℕ → Place → Bool
lasts l n p =
    cond p.fresh (just_entered p.position p.units.top p.last)
    (leb (p.last.start + prefix_of l) p.last.own && (leb p.last.own p.last.end && leb p.last.end n))
