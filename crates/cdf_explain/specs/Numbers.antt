-- The answer of `explain` in numbers, and which numbers tell why.
use Rattle.std.specs.Prelude.{ℕ, List, map, length, replicate, Option, Some, None}
use Rattle.cdf_unit_list.specs.declared.Unit.{Unit}
use Rattle.cdf_explain_spec.specs.Why.{Why}
use Rattle.cdf_unit_table.specs.Entries.{padded}
use Rattle.cdf_explain.specs.declared.OpenUnit.{OpenUnit}
use Rattle.cdf_explain.specs.declared.Explained.{Explained}

-- The number and the offset; how many units are open, id and start of each, the root first; how many ids there are, and these.
pub record ExplainedNumbers : Type 0 where
  pub number : ℕ
  pub offset : ℕ
  pub depth : ℕ
  pub units : List ℕ
  pub starts : List ℕ
  pub choices : ℕ
  pub ids : List ℕ

-- What the code tells of a refused stream,
abbrev pub numbers_of : Explained → ExplainedNumbers
numbers_of e = record {
  number = e.number;
  offset = e.offset;
  depth = e.depth;
  units = map (λ (u : OpenUnit). u.id) e.units;
  starts = map (λ (u : OpenUnit). u.start) e.units;
  choices = e.choices.count;
  ids = e.choices.ids;
}

-- and of any: zeros for an accepted one.
abbrev pub numbers_told : Option Explained → ExplainedNumbers
numbers_told None = record {
  number = 0;
  offset = 0;
  depth = 0;
  units = replicate 4 0;
  starts = replicate 4 0;
  choices = 0;
  ids = replicate 14 0;
}
numbers_told (Some e) = numbers_of e

unfoldable pub explained_by : Why → ExplainedNumbers
explained_by w = record {
  number = w.number;
  offset = w.offset;
  depth = length w.units;
  units = padded 4 (map (λ (u : Unit). u.id) w.units);
  starts = padded 4 (map (λ (u : Unit). u.start) w.units);
  choices = length w.ids;
  ids = padded 14 w.ids;
}
