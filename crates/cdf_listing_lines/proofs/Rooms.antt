-- Behind any line there is a number for the place, if it is put at a place that a u32 holds.
use Rattle.std.proofs.Common.{ℕ, ◌^◌, ◌≤◌, ◌<◌, [], ◌∷◌, ◌++◌, arith, length, length-append}
use Rattle.cdf_unit_list.specs.declared.Unit.{Unit}
use Rattle.cdf_listing_spec.specs.Decimal.{decimal}
use Rattle.cdf_listing_spec.specs.Text.{number, columns, ok_line, refused_line}
use Rattle.cdf_listing_spec.proofs.Digits.{few_digits}
use Rattle.cdf_listing_spec.proofs.Short.{ok_short, refused_short}
use Rattle.cdf_listing_lines.specs.Put.{Room}

number_short : (n : ℕ) → n < 2 ^ 64 → length (number n) ≤ 21
unfolding number
number_short n h = let digits = few_digits 19 n (omega arith) in simp length-append (omega arith)

pub line_room : (at depth size : ℕ) (u : Unit) → at < 2 ^ 32 → depth < 2 ^ 64 → size < 2 ^ 64 →
    (u.start < 2 ^ 64) × (u.id < 2 ^ 64) × (u.action < 2 ^ 64) → Room at (columns depth u ++ decimal size ++ 10 ∷ [])
unfolding columns
line_room at depth size u h i j w =
    let start = number_short u.start w.0 in
    let level = number_short depth i in
    let id = number_short u.id w.1 in
    let action = number_short u.action w.2 in
    let digits = few_digits 19 size (omega arith) in
    record { held = simp length-append (omega arith) }

pub ok_room : (at n : ℕ) → at < 2 ^ 32 → n < 2 ^ 64 → Room at (ok_line n)
ok_room at n h i = let line = ok_short 19 n (omega arith) in record { held = omega arith }

pub refused_room : (n offset : ℕ) → n < 2 ^ 64 → offset < 2 ^ 64 → Room 0 (refused_line n offset)
refused_room n offset h i = let line = refused_short 19 19 n offset (omega arith) (omega arith) in record { held = omega arith }
