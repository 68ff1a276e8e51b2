-- What the listing program writes of some bytes (01, "Samples"), as ASCII bytes.
use Rattle.std.specs.Prelude.{ℕ, ◌-◌, cond, List, [], ◌∷◌, ◌++◌, eqb}
use Rattle.cdf_unit_prefix.specs.Layout.{Layout}
use Rattle.cdf_unit_list.specs.Units.{listing, depths}
use Rattle.cdf_unit_list.specs.Check.{check_of}
use Rattle.cdf_unit_list.specs.declared.Unit.{Unit}
use Rattle.cdf_listing_spec.specs.Decimal.{decimal}

-- A number and a space.
unfoldable pub number : ℕ → List ℕ
number n = decimal n ++ 32 ∷ []

-- A unit's line begins with its offset, its depth, its id and its action,
unfoldable pub columns : ℕ → Unit → List ℕ
columns depth u = number u.start ++ number depth ++ number u.id ++ number u.action

-- and ends with its length and a line feed.
unfoldable pub line_of : ℕ → Unit → List ℕ
line_of depth u = columns depth u ++ decimal (u.end - u.start) ++ 10 ∷ []

-- A line for each unit, with the depth that stands at its place in the other list.
unfoldable pub lines_of : List ℕ → List Unit → List ℕ
lines_of [] us = []
lines_of (d ∷ ds) [] = []
lines_of (d ∷ ds) (u ∷ us) = line_of d u ++ lines_of ds us

-- The unit list, each unit with its depth in it.
unfoldable pub listed_lines : Layout → List ℕ → List ℕ
listed_lines l s = lines_of (depths [] (listing l s).units) (listing l s).units

-- `ok N`, the line behind the units.
unfoldable pub ok_line : ℕ → List ℕ
ok_line units = (0x6f ∷ 0x6b ∷ 32 ∷ []) ++ decimal units ++ 10 ∷ []

-- `refused N at OFFSET`, the only line for bytes that the check refuses.
unfoldable pub refused_line : ℕ → ℕ → List ℕ
refused_line n offset =
    (0x72 ∷ 0x65 ∷ 0x66 ∷ 0x75 ∷ 0x73 ∷ 0x65 ∷ 0x64 ∷ 32 ∷ []) ++ decimal n ++ (32 ∷ 0x61 ∷ 0x74 ∷ 32 ∷ []) ++ decimal offset ++ 10 ∷ []

-- The whole text, by the check's answer.
unfoldable pub listing_text : Layout → List ℕ → List ℕ
listing_text l s =
    cond (eqb (check_of l s).number 0) (listed_lines l s ++ ok_line (check_of l s).value)
    (refused_line (check_of l s).number (check_of l s).value)
