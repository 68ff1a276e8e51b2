-- The open units by their levels, from the root inwards.
use Rattle.std.proofs.Common.{ℕ, zero, suc, ◌≤◌, ◌≡◌, refl, List, [], ◌∷◌, arith}
use Rattle.cdf_unit_table.specs.States.{unit_of}
use Rattle.cdf_unit_list.specs.declared.Open.{Open}
use Rattle.cdf_reader_spec.specs.Slots.{around, open_units}
use Rattle.cdf_explain.specs.Numbers.{numbers_of}
use Rattle.cdf_explain.specs.Parts.{level, unit_told, choices_of, told_at}
use Rattle.cdf_explain.specs.declared.OpenUnit.{OpenUnit}

-- The units at the levels, and what is told of them.
abbrev pub levels : ℕ → Open → Open → Open → Open → List OpenUnit
levels count top o1 o2 o3 =
    unit_told (level 1 count top o1)
    ∷ unit_told (level 2 count top o2)
    ∷ unit_told (level 3 count top o3)
    ∷ unit_told (level 4 count top o3)
    ∷ []

pub told_at_lem : (count : ℕ) (top o1 o2 o3 : Open) → count ≤ 4 → (number offset : ℕ) →
    numbers_of (record {
      number = number;
      offset = offset;
      depth = count;
      units = levels count top o1 o2 o3;
      choices = choices_of count top.state;
    }) ≡ told_at number offset (open_units count top o1 o2 o3)
unfolding told_at open_units around unit_of
told_at_lem zero top o1 o2 o3 h number offset = refl
told_at_lem (suc zero) top o1 o2 o3 h number offset = refl
told_at_lem (suc (suc zero)) top o1 o2 o3 h number offset = refl
told_at_lem (suc (suc (suc zero))) top o1 o2 o3 h number offset = refl
told_at_lem (suc (suc (suc (suc zero)))) top o1 o2 o3 h number offset = refl
told_at_lem (suc (suc (suc (suc (suc k))))) top o1 o2 o3 h number offset = absurd (omega arith)
