-- Which place of document 01 a struct is, and which reply an answer or a refusal; the struct that holds only zeros.
use Rattle.std.specs.Prelude.{ℕ, false, List, take, drop, Result, Ok, Err}
use Rattle.cdf_refusal.specs.Numbers.{number_of}
use Rattle.cdf_refusal.specs.declared.Fault.{Fault}
use Rattle.cdf_unit_prefix.specs.Layout.{layout_for}
use Rattle.cdf_reader_spec.specs.Place.{ReaderPlace}
use Rattle.cdf_reader_spec.specs.Calls.{Reply, Part, refuse, no_unit, part_of}
use Rattle.cdf_reader_spec.specs.Slots.{no_units, no_ranks, place_of}
use Rattle.cdf_reader.specs.declared.Place.{Place}
use Rattle.cdf_reader.specs.declared.Answer.{Answer}

abbrev pub view : Place → ReaderPlace
view p = place_of p.position p.units.count p.units.top p.units.o1 p.units.o2 p.units.o3 p.last p.fresh p.ranks

abbrev pub reply_of : Answer → Reply
reply_of a = record { number = 0; offset = 0; handed = a.handed; place = view a.place }

-- A refusal goes with the place that is given here: for a start the empty one, for a call the one that it was given.
abbrev pub reply_from : Place → Result Answer Fault → Reply
reply_from p (Ok a) = reply_of a
reply_from p (Err f) = refuse (number_of f.refusal) f.offset (view p)

-- The part of the bytes that GET_STREAM lends from a place, and the bytes of a part.
abbrev pub part_at : Place → List ℕ → Part
part_at p s = part_of (layout_for s) s (view p)

abbrev pub bytes_of : Part → List ℕ → List ℕ
bytes_of part s = take part.size (drop part.start s)

-- The empty place that a refused start and ABNORMAL_END return.
abbrev pub no_place : Place
no_place = record {
  position = 0;
  units = no_units;
  last = no_unit;
  fresh = false;
  ranks = no_ranks;
}
