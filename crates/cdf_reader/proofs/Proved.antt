-- The claims of this crate, proved.
use Rattle.std.proofs.Common.{ℕ, ◌≤◌, ◌≡◌, refl, List, [], ◌∷◌, arith, length}
use Rattle.cdf_reader_spec.specs.Place.{ReaderPlace}
use Rattle.cdf_reader_spec.specs.Slots.{no_open, held_of, open_units, open_ranks}
use Rattle.cdf_reader_advance.proofs.Steady.{advances_by}
use Rattle.cdf_reader.specs.View.{view}
use Rattle.cdf_reader.specs.Words.{Word, OpenWords, AllWords, PlaceWords, StructWords}
use Rattle.cdf_reader.specs.Claims.{Claims}
use Rattle.cdf_reader.specs.declared.Place.{Place}

-- At most four things of a kind in the slots of a struct; `none` where there are fewer.
module _ {A : Type 0} (Words : A → Type 0) (none : A) (zeros : Words none) where
  record Slots (count : ℕ) (xs : List A) : Type 0 where
    top : A
    x1 : A
    x2 : A
    x3 : A
    words : Words top × Words x1 × Words x2 × Words x3
    held : held_of none count top x1 x2 x3 ≡ xs

  slots : (xs : List A) → length xs ≤ 4 → AllWords Words xs → Slots (length xs) xs
  unfolding held_of
  slots [] few a = record { top = none; x1 = none; x2 = none; x3 = none; words = (zeros, zeros, zeros, zeros); held = refl }
  slots (t ∷ []) few a = record { top = t; x1 = none; x2 = none; x3 = none; words = (a.0, zeros, zeros, zeros); held = refl }
  slots (t ∷ x ∷ []) few a = record { top = t; x1 = x; x2 = none; x3 = none; words = (a.0, a.1.0, zeros, zeros); held = refl }
  slots (t ∷ y ∷ x ∷ []) few a =
      record { top = t; x1 = x; x2 = y; x3 = none; words = (a.0, a.1.1.0, a.1.0, zeros); held = refl }
  slots (t ∷ z ∷ y ∷ x ∷ []) few a =
      record { top = t; x1 = x; x2 = y; x3 = z; words = (a.0, a.1.1.1.0, a.1.1.0, a.1.0); held = refl }
  slots (t ∷ z ∷ y ∷ x ∷ v ∷ xs) few a = absurd (omega arith)

  slots_of : (xs : List A) (count : ℕ) → length xs ≡ count → count ≤ 4 → AllWords Words xs → Slots count xs
  slots_of xs count e few a = rw (← e) (slots xs (omega arith) a)

open_zeros : OpenWords no_open
open_zeros = (omega arith, omega arith, omega arith)

viewed : (p : ReaderPlace) → length p.units ≤ 4 → length p.ranks ≡ length p.units → PlaceWords p →
    (q : Place) × StructWords q × (view q ≡ p)
unfolding open_units open_ranks
viewed p few each w =
    let count = length p.units in
    let u = slots_of OpenWords no_open open_zeros p.units count refl few w.units in
    let k = slots_of Word 0 (omega arith) p.ranks count each few w.ranks in (
      record {
        position = p.position;
        units = record { count = count; top = u.top; o1 = u.x1; o2 = u.x2; o3 = u.x3 };
        last = p.last;
        fresh = p.fresh;
        ranks = record { top = k.top; r1 = k.x1; r2 = k.x2; r3 = k.x3; last = p.last_rank };
      },
      record {
        position = w.position;
        count = omega arith;
        top = u.words.0;
        o1 = u.words.1;
        o2 = u.words.2;
        o3 = u.words.3;
        last = w.last;
        ranks = (k.words.0, k.words.1, k.words.2, k.words.3, w.last_rank);
      },
      rw (u.held, k.held),
    )

pub proved : Claims
proved = record { viewed = viewed; advances = advances_by }
