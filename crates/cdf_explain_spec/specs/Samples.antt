-- What the tool tells of K1 to K12 (01, "Samples") and of three more: of each the number, the offset, id and start of each open unit, and the ids.
use Rattle.std.specs.Prelude.{ℕ, List, [], ◌∷◌, map, set}
use Rattle.cdf_unit_prefix.specs.Layout.{layout_of}
use Rattle.cdf_unit_prefix.specs.declared.Edition.TheVariants.{First}
use Rattle.cdf_unit_list.specs.Samples.{k1, k2, k4, k12}
use Rattle.cdf_unit_list.specs.declared.Unit.{Unit}
use Rattle.cdf_explain_spec.specs.Why.{Why, why_of}

pub record Standing : Type 0 where
  pub id : ℕ
  pub start : ℕ

abbrev at : ℕ → ℕ → Standing
at id start = record { id = id; start = start }

pub record Told : Type 0 where
  pub number : ℕ
  pub offset : ℕ
  pub units : List Standing
  pub ids : List ℕ

abbrev told : ℕ → ℕ → List Standing → List ℕ → Told
told number offset units ids = record { number = number; offset = offset; units = units; ids = ids }

abbrev standing : Unit → Standing
standing u = at u.id u.start

unfoldable tell_of : List ℕ → Told
unfolding why_of
tell_of s = let w : Why = why_of (layout_of First) s in told w.number w.offset (map standing w.units) w.ids

-- A relation whose third end is refused: it admits nothing more.
abbrev pub third_end : List ℕ
third_end =
    0xcd ∷ 0xf1 ∷ 0 ∷ 0x2e ∷ 0 ∷ 4
    ∷ 0xcd ∷ 0xf1 ∷ 0 ∷ 0x28 ∷ 1 ∷ 9 ∷ 0 ∷ 0 ∷ 0 ∷ 1
    ∷ 0xcd ∷ 0xf1 ∷ 0 ∷ 0x0a ∷ 0 ∷ 12 ∷ 0 ∷ 0 ∷ 0 ∷ 1
    ∷ 0xcd ∷ 0xf1 ∷ 0 ∷ 0x0a ∷ 0 ∷ 12 ∷ 0 ∷ 0 ∷ 0 ∷ 2
    ∷ 0xcd ∷ 0xf1 ∷ 0 ∷ 0x0a ∷ 0 ∷ 12 ∷ 0 ∷ 0 ∷ 0 ∷ 3 ∷ []

-- An entity key without a key, which ends where its relation and the group do: all three are open.
abbrev pub no_key : List ℕ
no_key =
    0xcd ∷ 0xf1 ∷ 0 ∷ 0x22 ∷ 0 ∷ 4
    ∷ 0xcd ∷ 0xf1 ∷ 0 ∷ 0x1c ∷ 1 ∷ 9 ∷ 0 ∷ 0 ∷ 0 ∷ 1
    ∷ 0xcd ∷ 0xf1 ∷ 0 ∷ 0x0a ∷ 0 ∷ 12 ∷ 0 ∷ 0 ∷ 0 ∷ 1
    ∷ 0xcd ∷ 0xf1 ∷ 0 ∷ 8 ∷ 0 ∷ 11 ∷ 1 ∷ 0x50 ∷ []

-- An entity key that has had its temporary key: it admits nothing more (02, c).
abbrev pub second_key : List ℕ
second_key =
    0xcd ∷ 0xf1 ∷ 0 ∷ 0x36 ∷ 0 ∷ 4
    ∷ 0xcd ∷ 0xf1 ∷ 0 ∷ 0x30 ∷ 1 ∷ 9 ∷ 0 ∷ 0 ∷ 0 ∷ 1
    ∷ 0xcd ∷ 0xf1 ∷ 0 ∷ 0x1c ∷ 0 ∷ 11 ∷ 1 ∷ 0x50
    ∷ 0xcd ∷ 0xf1 ∷ 0 ∷ 0x0a ∷ 0 ∷ 6 ∷ 0 ∷ 0 ∷ 0 ∷ 1
    ∷ 0xcd ∷ 0xf1 ∷ 0 ∷ 0x0a ∷ 0 ∷ 6 ∷ 0 ∷ 0 ∷ 0 ∷ 2
    ∷ 0xcd ∷ 0xf1 ∷ 0 ∷ 0x0a ∷ 0 ∷ 12 ∷ 0 ∷ 0 ∷ 0 ∷ 2 ∷ []

unfoldable pub samples_found : List Told
unfolding tell_of
samples_found =
    tell_of k1
    ∷ tell_of k2
    ∷ tell_of []
    ∷ tell_of k4
    ∷ tell_of (set k1 3 0x0f)
    ∷ tell_of (set k1 9 0x0b)
    ∷ tell_of (set k1 9 0x09)
    ∷ tell_of (set k2 9 0x17)
    ∷ tell_of (set k2 1 0xf0)
    ∷ tell_of (set k2 33 0)
    ∷ tell_of (set k2 13 0x31)
    ∷ tell_of k12
    ∷ tell_of third_end
    ∷ tell_of no_key
    ∷ tell_of second_key
    ∷ []

-- Of a refused start: nothing open, and a root's ids.
abbrev at_start : ℕ → Told
at_start number = told number 0 [] (1 ∷ 4 ∷ 13 ∷ [])

abbrev pub samples_due : List Told
samples_due =
    told 0 0 [] []
    ∷ told 0 0 [] []
    ∷ at_start 3
    ∷ told 10 0 (at 13 0 ∷ []) (14 ∷ [])
    ∷ at_start 5
    ∷ told 5 6 (at 13 0 ∷ []) (14 ∷ [])
    ∷ told 3 15 (at 13 0 ∷ []) (14 ∷ [])
    ∷ told 7 29 (at 4 0 ∷ []) (5 ∷ 9 ∷ 10 ∷ [])
    ∷ at_start 4
    ∷ told 8 29 (at 4 0 ∷ at 5 6 ∷ []) (8 ∷ [])
    ∷ told 9 13 (at 4 0 ∷ []) (5 ∷ 9 ∷ 10 ∷ [])
    ∷ told 0 0 [] []
    ∷ told 7 36 (at 4 0 ∷ at 9 6 ∷ []) []
    ∷ told 10 26 (at 4 0 ∷ at 9 6 ∷ at 11 26 ∷ []) (6 ∷ 7 ∷ [])
    ∷ told 7 34 (at 4 0 ∷ at 9 6 ∷ at 11 16 ∷ []) []
    ∷ []
