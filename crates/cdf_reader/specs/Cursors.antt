-- A place and the cursor that the crates below work on have the same parts: what `Place::cursor` and the impls between them state.
use Rattle.cdf_reader_cursor.specs.declared.Cursor.{Cursor}
use Rattle.cdf_reader_cursor.specs.declared.Outcome.{Outcome}
use Rattle.cdf_reader.specs.declared.Place.{Place}
use Rattle.cdf_reader.specs.declared.Answer.{Answer}

abbrev pub cursor_of : Place → Cursor
cursor_of p = record {
  position = p.position;
  units = p.units;
  last = p.last;
  fresh = p.fresh;
  ranks = p.ranks;
}

abbrev pub place_with : Cursor → Place
place_with c = record {
  position = c.position;
  units = c.units;
  last = c.last;
  fresh = c.fresh;
  ranks = c.ranks;
}

abbrev pub answer_of : Outcome → Answer
answer_of o = record { handed = o.handed; place = place_with o.cursor }
