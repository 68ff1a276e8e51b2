-- The units that closing leaves are those of the place, and so are their ranks.
use Rattle.std.proofs.Common.{ℕ, ◌≡◌, sym, ap, ◌∙◌, length}
use Rattle.cdf_unit_list.specs.declared.Open.{Open}
use Rattle.cdf_reader_spec.specs.Closing.{unclosed, closed_at}
use Rattle.cdf_reader_spec.specs.Slots.{open_units, open_ranks, place_of}
use Rattle.cdf_reader_spec.proofs.Counted.{length_open}
use Rattle.cdf_reader_close.specs.Levels.{rank_at}
use Rattle.cdf_reader_close.proofs.Levels.{left-ranks}
use Rattle.cdf_reader.specs.View.{view}
use Rattle.cdf_reader.specs.declared.Place.{Place}
use Rattle.cdf_reader.proofs.Place.close_ended.Goals as goal

closed : (p : Place) (left : ℕ) (inner : Open) (rank : ℕ) →
    open_units left inner p.units.o1 p.units.o2 p.units.o3 ≡ unclosed (view p).units p.position → rank ≡ rank_at left p.units.count p.ranks →
    place_of p.position left inner p.units.o1 p.units.o2 p.units.o3 p.last p.fresh
    (record { top = rank; r1 = p.ranks.r1; r2 = p.ranks.r2; r3 = p.ranks.r3; last = p.ranks.last })
    ≡ closed_at (view p)
unfolding closed_at open_ranks
closed p left inner rank is e =
    let many = sym (length_open left inner p.units.o1 p.units.o2 p.units.o3) ∙ ap length is in
    rw (is, e, left-ranks p.position p.units.count p.units.top p.units.o1 p.units.o2 p.units.o3 p.ranks left many)

pub returns : goal.returns
returns c =
    closed c.args.self _ _ _ c.close-left.ensures c.rank_at.ensures
