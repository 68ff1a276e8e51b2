-- Each return by its law. A call is named by the unit that it asks: `innermost`, `third`, `second`, and `first`, the
-- outermost.
use Rattle.cdf_unit_prefix.specs.Layout.{layout_of}
use Rattle.cdf_builder_fit.proofs.Parted.{single, double, triple, fourfold, no_other}
use Rattle.cdf_builder_fit.proofs.are_linked.Goals as goal

pub returns-in-1 : goal.returns-in-1
returns-in-1 c =
    let p = c.args.p in
    rw c.is_outermost.ensures (single (layout_of c.args.edition) p.units.count p.units.top p.units.o1 p.units.o2 p.units.o3 c.in-1.is)

pub returns-in-2 : goal.returns-in-2
returns-in-2 c =
    let p = c.args.p in
    rw (c.is_inside.ensures, c.is_outermost-in-2.ensures)
    (double (layout_of c.args.edition) p.units.count p.units.top p.units.o1 p.units.o2 p.units.o3 c.in-2.is)

pub returns-in-3 : goal.returns-in-3
returns-in-3 c =
    let p = c.args.p in
    rw (c.is_inside-in-3.ensures, c.is_inside-in-3-2.ensures, c.is_outermost-in-3.ensures)
    (triple (layout_of c.args.edition) p.units.count p.units.top p.units.o1 p.units.o2 p.units.o3 c.in-3.is)

pub returns-in-4 : goal.returns-in-4
returns-in-4 c =
    let p = c.args.p in
    rw (c.is_inside-in-4.ensures, c.is_inside-in-4-2.ensures, c.is_inside-in-4-3.ensures, c.is_outermost-in-4.ensures)
    (fourfold (layout_of c.args.edition) p.units.count p.units.top p.units.o1 p.units.o2 p.units.o3 c.in-4.is)

pub returns-in_default : goal.returns-in_default
returns-in_default c =
    let p = c.args.p in
    let other = c.in_default.in_default-own.rest in
    no_other (layout_of c.args.edition) p.units.count p.units.top p.units.o1 p.units.o2 p.units.o3
    other.0.0.0.1 other.0.0.1 other.0.1 other.1
