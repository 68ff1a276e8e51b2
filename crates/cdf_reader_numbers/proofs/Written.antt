-- What was written of a place is read again.
use Rattle.std.proofs.Common.{◌≡◌, refl, Bool, true, false, not, cond, eqb}
use Rattle.cdf_reader.specs.declared.Place.{Place}
use Rattle.cdf_reader_numbers.specs.Numbers.{place_from, numbers_of}

flag_read : (b : Bool) → not (eqb (cond b 1 0) 0) ≡ b
flag_read true = refl
flag_read false = refl

pub read_again : (p : Place) → place_from (numbers_of p) ≡ p
read_again p = rw (flag_read p.fresh)
