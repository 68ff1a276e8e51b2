-- The number into which a walk folds the units that it is handed and the answer that ends it.
use Rattle.std.specs.Prelude.{ℕ, ◌*◌, ◌/◌, ◌%◌, ◌^◌, List}
use mathlib.Core.List.{foldl}
use Rattle.std.specs.Int.Bits.{bit_or, bit_xor}
use Rattle.cdf_unit_prefix.specs.Layout.{Layout}
use Rattle.cdf_unit_list.specs.Ranks.{ranked_units}
use Rattle.cdf_unit_list.specs.Check.{check_of}
use Rattle.cdf_unit_list.specs.declared.Unit.{Unit}
use Rattle.cdf_unit_list.specs.declared.Ranked.{Ranked}
use Rattle.cdf_reader_runs.specs.Runs.{afterwards}

-- In 64 bits, moved up by so many.
abbrev up : ℕ → ℕ → ℕ
up k n = n * 2 ^ k % 2 ^ 64

-- One more unit: what there is turned by five bits, and the unit's numbers.
abbrev pub mix_of : ℕ → Ranked → ℕ
mix_of h r =
    let u : Unit = r.unit in
    bit_xor
    (bit_xor
    (bit_xor
    (bit_xor (bit_or (up 5 h) (h / 2 ^ 59)) (bit_xor (bit_xor u.start (up 16 u.own)) (up 32 u.end)))
    (up 48 u.id))
    (up 56 u.action))
    (bit_xor (up 52 r.depth) (up 8 r.rank))

-- The number that ends the walk, and its offset.
abbrev pub mix_end : ℕ → ℕ → ℕ → ℕ
mix_end h number offset = bit_xor (bit_xor h (up 57 number)) (up 3 offset)

-- A whole walk: the unit list, and then the end or the check's number and offset.
unfoldable pub walk_of : Layout → List ℕ → ℕ
unfolding ranked_units check_of afterwards
walk_of l s = mix_end (foldl mix_of 0 (ranked_units l s)) (afterwards (check_of l s)).number (afterwards (check_of l s)).offset
