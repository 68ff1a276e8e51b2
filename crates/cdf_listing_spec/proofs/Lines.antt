-- The lines of the units that were handed out, the last one first, and of those that come.
use Rattle.std.proofs.Common.{ℕ, suc, ◌≡◌, refl, sym, ◌∙◌, List, [], ◌∷◌, ◌++◌, append_assoc, append-nil, length}
use mathlib.Core.List.{reverse_aux}
use Rattle.cdf_unit_prefix.specs.Layout.{Layout}
use Rattle.cdf_unit_list.specs.Units.{open_at, depths}
use Rattle.cdf_unit_list.specs.Ranks.{standing}
use Rattle.cdf_unit_list.specs.declared.Unit.{Unit}
use Rattle.cdf_reader_spec.specs.Calls.{Reply}
use Rattle.cdf_reader_runs.proofs.Looping.{Going, Turn, Over}
use Rattle.cdf_listing_spec.specs.Text.{line_of, lines_of, listed_lines}

-- The line of the unit that an answer hands out.
abbrev pub line_in : Reply → List ℕ
line_in a = line_of a.handed.depth a.handed.unit

-- The line of a unit behind others, and the lines of all of them.
abbrev line_behind : List Unit → Unit → List ℕ
line_behind us u = line_of (suc (length (open_at u.start us))) u

unfoldable pub text_of : List Unit → List ℕ
text_of [] = []
text_of (u ∷ us) = text_of us ++ line_behind us u

text_on : (before us : List Unit) →
    lines_of (depths [] (reverse_aux before us)) (reverse_aux before us) ≡ text_of before ++ lines_of (depths before us) us
unfolding text_of lines_of depths
text_on [] us = refl
text_on (u ∷ before) us =
    text_on before (u ∷ us) ∙ sym (append_assoc (text_of before) (line_behind before u) (lines_of (depths (u ∷ before) us) us))

module _ (l : Layout) (s : List ℕ) where
  -- All lines are those before and those that come.
  pub lines_on : (before : List Unit) (a : Reply) (g : Going l s before a) →
      listed_lines l s ≡ text_of before ++ lines_of (depths before g.units) g.units
  unfolding listed_lines
  lines_on before a g = rw g.all (text_on before g.units)

  pub lines_over : (before : List Unit) (a : Reply) → Over l s before a → listed_lines l s ≡ text_of before
  unfolding listed_lines lines_of depths
  lines_over before a o = rw o.all (text_on before [] ∙ append-nil (text_of before))

  -- The line of a unit that was handed out comes next.
  pub text_next : (before : List Unit) (a : Reply) → Turn l s before a → text_of (a.handed.unit ∷ before) ≡ text_of before ++ line_in a
  unfolding text_of standing
  text_next before a t = rw t.ranked
