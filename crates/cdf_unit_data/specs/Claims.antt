-- What is claimed of the byte that broken own data name (02, b). The term of this record stands in proofs/Proved.
use Rattle.std.specs.Prelude.{ℕ, suc, ◌+◌, ◌-◌, ◌<◌, ◌≡◌, List, [], ◌∷◌, ◌++◌, ◌⊎◌, ◌↔◌, length, take, replicate, Ok, Err}
use types.Run.{OneOf}
use Rattle.cdf_unit_table.specs.Ids.{call, parameter, template, temporary_key, template_key, field, relation, ordered_relation, entity_key, relation_key, line}
use Rattle.cdf_unit_data.specs.Data.{name_bytes, name_of, own_data}
use Rattle.cdf_unit_data.specs.Standing.{name_row, row_bytes}

-- As many bytes, and the first k of them are the same.
abbrev pub Agree : ℕ → List ℕ → List ℕ → Type 0
Agree k s t = (length t ≡ length s) × (take k t ≡ take k s)

-- The bytes begin with a right name.
abbrev pub Named : List ℕ → Type 0
Named s = (k : ℕ) × (name_of s ≡ Ok k)

-- The first k bytes, and an A for each of the others.
abbrev pub lettered : ℕ → List ℕ → List ℕ
lettered k s = take k s ++ replicate (length s - k) 65

-- The value of a unit of this id begins behind so many bytes: behind its name, if it has one.
abbrev pub ValueAt : ℕ → List ℕ → ℕ → Type 0
ValueAt id s at = (OneOf (parameter ∷ field ∷ []) id × (name_of s ≡ Ok at)) ⊎ (OneOf (template_key ∷ line ∷ []) id × (at ≡ 0))

-- A unit of this id has so many bytes of numbers, and may hold nothing else, or others behind them.
abbrev pub Alone : ℕ → ℕ → Type 0
Alone id n = OneOf (temporary_key ∷ relation_key ∷ []) id × (n ≡ 4)

abbrev pub Leading : ℕ → ℕ → Type 0
Leading id n = ((id ≡ relation) × (n ≡ 4)) ⊎ ((id ≡ ordered_relation) × (n ≡ 8))

pub record Claims : Type 0 where
  -- No bytes that agree up to the named byte, with it, begin with a right name, whatever follows it;
  pub offends : (s : List ℕ) (k : ℕ) → name_of s ≡ Err k → (t : List ℕ) → Agree (suc k) s t → Named t → ⊥
  -- and some that agree before it do, where it is not the count byte. So it is the first that offends.
  pub mends : (s : List ℕ) (k : ℕ) → name_of s ≡ Err (suc k) →
      Agree (suc k) s (lettered (suc k) s) × Named (lettered (suc k) s)
  -- Where a unit has a name, a byte that a broken name names is the one that its own data name.
  pub names : (s : List ℕ) (id k : ℕ) → OneOf (call ∷ parameter ∷ template ∷ field ∷ entity_key ∷ []) id → name_of s ≡ Err k →
      own_data id s ≡ Err k
  -- Where its value begins, they name a byte exactly if the value has more than 4,096: its number 4,097, counted from one.
  pub values : (s : List ℕ) (id at k : ℕ) → ValueAt id s at →
      (own_data id s ≡ Err k) ↔ ((at + 4096 < length s) × (k ≡ at + 4096))
  -- Of numbers they name the byte behind the prefix, exactly if those are cut short,
  pub cut_short : (s : List ℕ) (id n k : ℕ) → Leading id n → (own_data id s ≡ Err k) ↔ ((length s < n) × (k ≡ 0))
  -- or too long, in a unit that holds nothing else.
  pub too_long : (s : List ℕ) (id n k : ℕ) → Alone id n →
      (own_data id s ≡ Err k) ↔ (((length s < n) ⊎ (n < length s)) × (k ≡ 0))
  -- The bytes that the row lets stand in a name, as its first and behind that, are 01's: of any number that is looked up in it.
  pub row_says : row_bytes name_row ≡ name_bytes
