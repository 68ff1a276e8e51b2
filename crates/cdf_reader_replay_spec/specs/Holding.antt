-- What the loop knows of its cursor, and what is written of a turn. Of the contracts that are open only the trait `Turns` cites this file.
use Rattle.std.specs.Prelude.{ℕ, ◌≡◌, true, List, length, Result, Ok, Err}
use Rattle.cdf_refusal.specs.Numbers.{number_of}
use Rattle.cdf_refusal.specs.declared.Fault.{Fault}
use Rattle.cdf_unit_prefix.specs.Layout.{layout_for}
use Rattle.cdf_reader_spec.specs.Place.{fits}
use Rattle.cdf_reader_spec.specs.Calls.{Part, no_ranked}
use Rattle.cdf_reader_spec.specs.declared.Call.{Call}
use Rattle.cdf_reader_cursor.specs.Outcomes.{cursor_place}
use Rattle.cdf_reader_cursor.specs.declared.Cursor.{Cursor}
use Rattle.cdf_reader_cursor.specs.declared.Outcome.{Outcome}
use Rattle.cdf_reader_step.specs.Kept.{cursor_kept}
use Rattle.cdf_reader_plain.specs.Calls.{Told}

-- A place with an open unit fits.
abbrev pub Held : List ℕ → Cursor → Type 0
Held s c = (c.units.count ≡ 0 → ⊥) → fits (layout_for s) (length s) (cursor_place c) ≡ true

-- The cursor to which a call leads.
abbrev pub cursor_after : Call → Cursor → Result Outcome Fault → Cursor
cursor_after call c (Ok o) = o.cursor
cursor_after call c (Err f) = cursor_kept call c

-- What is told of an outcome or a refusal, with the part taken; its number.
abbrev pub number_told : Result Outcome Fault → ℕ
number_told (Ok o) = 0
number_told (Err f) = number_of f.refusal

abbrev pub told_of : Result Outcome Fault → Part → Told
told_of (Ok o) part = record { number = 0; offset = 0; part = part; handed = o.handed }
told_of (Err f) part = record { number = number_of f.refusal; offset = f.offset; part = part; handed = no_ranked }
