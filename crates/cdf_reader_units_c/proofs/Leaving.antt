-- What the call leaves: the place's numbers as they were, or those of the new place.
use Rattle.std.proofs.Common.{ℕ, ◌≡◌, refl, sym, ap, ◌∙◌, List, [], ◌∷◌, arith, length}
use Rattle.std.proofs.lemmas.List.{nil_from_length}
use Rattle.cdf_reader.specs.View.{view}
use Rattle.cdf_reader_numbers.specs.Numbers.{place_from, numbers_of}
use Rattle.cdf_reader_numbers.proofs.Written.{read_again}
use Rattle.cdf_reader_units.specs.Filling.{Told, Fills}
use Rattle.cdf_reader_units_c.specs.Batched.{batch_to, Batched}

module _ {s before list : List ℕ} {f : Told} {listed : List ℕ} (w : Fills s (place_from before) list f listed) where
  -- No unit was handed out: the numbers stay.
  pub leaves_old : f.count ≡ 0 → Batched s before list f.number before listed (f.offset ∷ f.count ∷ [])
  leaves_old z = record {
    told = w.number;
    answers = rw (w.offset, w.count);
    moves = sym (ap view (w.kept z)) ∙ w.place;
    stays = λ e. refl;
    written = λ some. absurd (some (nil_from_length (batch_to s before list).units (omega (arith, sym w.count ∙ z))));
    fills = w.list;
  }

  -- Some were: the new place's are written.
  pub leaves_new : (f.count ≡ 0 → ⊥) → (after : List ℕ) → after ≡ numbers_of f.place →
      Batched s before list f.number after listed (f.offset ∷ f.count ∷ [])
  leaves_new some after is = record {
    told = w.number;
    answers = rw (w.offset, w.count);
    moves = ap (λ ns. view (place_from ns)) is ∙ ap view (read_again f.place) ∙ w.place;
    stays = λ e. absurd (some (w.count ∙ ap length e));
    written = λ e. (f.place, w.place, is);
    fills = w.list;
  }
