-- What the calls of the table reader answer, by any list of numbers as the table. The rules and their order are the first reader's (01); whether a
-- unit is admitted, and the state after it, is looked up.
use Rattle.std.specs.Prelude.{ℕ, Bool, true, false, not, cond, List, [], length}
use Rattle.cdf_unit_prefix.specs.Layout.{Layout}
use Rattle.cdf_unit_data.specs.Data.{name_bytes}
use Rattle.cdf_unit_judge.specs.Judge.{judge_by, Judged}
use Rattle.cdf_unit_list.specs.Stack.{entered}
use Rattle.cdf_reader_spec.specs.Place.{ReaderPlace, is_empty, fits}
use Rattle.cdf_reader_spec.specs.Calls.{Reply, refuse, empty_place, stepped, untouched, passing}
use Rattle.cdf_reader_advance.specs.Advancing.{advanced_with}
use Rattle.cdf_table_reader_spec.specs.Table.{looked}

-- A unit in one that is in `state`, or with `true` and row 0 the root.
unfoldable pub table_judge : List ℕ → Layout → Bool → ℕ → List ℕ → Judged
unfolding judge_by looked
table_judge table l root state s = judge_by name_bytes l root (looked table state) s

-- FIRST: 3 to 6, 7 by row 0, 8 and 9.
unfoldable pub table_first : List ℕ → Layout → List ℕ → Reply
unfolding stepped entered table_judge
table_first table l s = stepped empty_place (entered 0 (λ state. []) (table_judge table l true 0 s))

-- NEXT: 11, 2, then 10 and 1 by closing, 3 to 6, 7 by the row of the unit around it, 8 and 9.
unfoldable pub table_next : List ℕ → Layout → List ℕ → ReaderPlace → Reply
unfolding is_empty fits advanced_with table_judge
table_next table l s p =
    cond (is_empty p) (refuse 11 0 p)
    (cond (not (fits l (length s) p)) (refuse 2 0 p) (advanced_with (table_judge table l false) s p))

-- SKIP: 11, 2, else the place past the last unit. It looks into no row.
unfoldable pub table_skip : Layout → List ℕ → ReaderPlace → Reply
unfolding untouched passing
table_skip l s p = passing l s p (untouched p)
