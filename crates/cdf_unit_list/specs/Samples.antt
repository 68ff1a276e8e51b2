-- The samples K1 to K12 (01, "Samples"), as one table.
use Rattle.std.specs.Prelude.{ℕ, Bool, true, ◌&&◌, List, [], ◌∷◌, set, eqb}
use Rattle.cdf_unit_prefix.specs.Layout.{layout_of}
use Rattle.cdf_unit_list.specs.Check.{Verdict, check_of}
use Rattle.cdf_unit_prefix.specs.declared.Edition.TheVariants.{First}

abbrev pub k1 : List ℕ
k1 = 0xcd ∷ 0xf1 ∷ 0 ∷ 0x10 ∷ 0 ∷ 0x0d ∷ 0xcd ∷ 0xf1 ∷ 0 ∷ 0x0a ∷ 0 ∷ 0x0e ∷ 0xc3 ∷ 0x89 ∷ 0x76 ∷ 0x61 ∷ []

abbrev pub k2 : List ℕ
k2 =
    0xcd ∷ 0xf1 ∷ 0 ∷ 0x2e ∷ 0 ∷ 4
    ∷ 0xcd ∷ 0xf1 ∷ 0 ∷ 0x28 ∷ 1 ∷ 5 ∷ 6 ∷ 0x50 ∷ 0x45 ∷ 0x52 ∷ 0x53 ∷ 0x4f ∷ 0x4e
    ∷ 0xcd ∷ 0xf1 ∷ 0 ∷ 0x0a ∷ 0 ∷ 6 ∷ 0 ∷ 0 ∷ 0 ∷ 1
    ∷ 0xcd ∷ 0xf1 ∷ 0 ∷ 0x11 ∷ 1 ∷ 8 ∷ 7 ∷ 0x53 ∷ 0x55 ∷ 0x52 ∷ 0x4e ∷ 0x41 ∷ 0x4d ∷ 0x45 ∷ 0xc3 ∷ 0x85 ∷ 0x73 ∷ []

abbrev pub k4 : List ℕ
k4 = 0xcd ∷ 0xf1 ∷ 0 ∷ 6 ∷ 0 ∷ 0x0d ∷ []

abbrev pub k12 : List ℕ
k12 = 0xcd ∷ 0xf1 ∷ 0 ∷ 0x12 ∷ 0 ∷ 1 ∷ 0xcd ∷ 0xf1 ∷ 0 ∷ 0x0c ∷ 0 ∷ 2 ∷ 5 ∷ 0x4d ∷ 0x45 ∷ 0x52 ∷ 0x47 ∷ 0x45 ∷ []

pub record Sample : Type 0 where
  pub bytes : List ℕ
  pub number : ℕ
  pub value : ℕ

abbrev sample : List ℕ → ℕ → ℕ → Sample
sample s n v = record { bytes = s; number = n; value = v }

abbrev pub samples : List Sample
samples =
    sample k1 0 2
    ∷ sample k2 0 4
    ∷ sample [] 3 0
    ∷ sample k4 10 0
    ∷ sample (set k1 3 0x0f) 5 0
    ∷ sample (set k1 9 0x0b) 5 6
    ∷ sample (set k1 9 0x09) 3 15
    ∷ sample (set k2 9 0x17) 7 29
    ∷ sample (set k2 1 0xf0) 4 0
    ∷ sample (set k2 33 0) 8 29
    ∷ sample (set k2 13 0x31) 9 13
    ∷ sample k12 0 2
    ∷ []

unfoldable pub holds : Sample → Bool
unfolding check_of
holds k =
    let a : Verdict = check_of (layout_of First) k.bytes in eqb a.number k.number && eqb a.value k.value

unfoldable pub all_hold : List Sample → Bool
unfolding holds
all_hold [] = true
all_hold (k ∷ ks) = holds k && all_hold ks
