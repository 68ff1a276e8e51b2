-- The rules of a unit's own data, on the unit's bytes after its prefix (01, "One unit"). A broken rule names the first
-- byte that breaks it (02, b).
use Rattle.std.specs.Prelude.{ℕ, suc, ◌+◌, Bool, cond, ◌&&◌, ◌||◌, List, [], ◌∷◌, length, take, leb, eqb, Result, Ok, Err}
use Rattle.cdf_unit_table.specs.Ids.{Rule, blank, name, name_value, value, numbers, kind_of}
use Rattle.cdf_unit_table.specs.States.{opens}

-- How many bytes a name or fixed numbers take, or the first byte that breaks their rule.
abbrev pub Own : Type 0
Own = Result ℕ ℕ

-- A to Z
abbrev pub letter : ℕ → Bool
letter b = leb 65 b && leb b 90

-- A to Z, 0 to 9 or underscore
abbrev pub name_byte : ℕ → Bool
name_byte b = letter b || ((leb 48 b && leb b 57) || eqb b 95)

-- Which bytes may stand in a name, as its first and behind that: 01's, and any others. Promises of functions that are lent a row of
-- bytes speak of any; where it is 01's row (specs/Standing), of these.
pub record NameBytes : Type 0 where
  pub first : ℕ → Bool
  pub later : ℕ → Bool

abbrev pub name_bytes : NameBytes
name_bytes = record { first = letter; later = name_byte }

-- How many bytes from the front may stand in a name after its first.
unfoldable pub run_by : NameBytes → List ℕ → ℕ
run_by w [] = 0
run_by w (b ∷ s) = cond (w.later b) (suc (run_by w s)) 0

-- How many bytes from the front may stand in a name from its first on.
unfoldable pub front_by : NameBytes → List ℕ → ℕ
unfolding run_by
front_by w [] = 0
front_by w (b ∷ s) = cond (w.first b) (suc (run_by w s)) 0

-- The bytes of a name after its count.
unfoldable pub spelled : ℕ → ℕ → Own
spelled count front = cond (eqb front count) (Ok (1 + count)) (Err (1 + front))

-- A name: a count of 1 to 32, then so many bytes of which each may stand where it does.
unfoldable pub name_by : NameBytes → List ℕ → Own
unfolding spelled front_by
name_by w [] = Err 0
name_by w (count ∷ s) =
    cond (leb 1 count && (leb count 32 && leb count (length s))) (spelled count (front_by w (take count s))) (Err 0)

-- A value: what is left after k bytes, 0 to 4,096 bytes of any kind.
unfoldable pub value_from : ℕ → List ℕ → Own
value_from k s = cond (leb (length s) (k + 4096)) (Ok k) (Err (k + 4096))

-- A value after a name.
unfoldable pub value_after : List ℕ → Own → Own
unfolding value_from
value_after s (Ok k) = value_from k s
value_after s (Err k) = Err k

-- n bytes of numbers; where the unit admits no others, nothing may follow them.
unfoldable pub numbers_of : ℕ → Bool → List ℕ → Own
numbers_of n others s = cond (cond others (leb n (length s)) (eqb (length s) n)) (Ok n) (Err 0)

unfoldable pub data_by : NameBytes → Rule → Bool → List ℕ → Own
unfolding name_by value_after value_from numbers_of
data_by w blank others s = Ok 0
data_by w name others s = name_by w s
data_by w name_value others s = value_after s (name_by w s)
data_by w value others s = value_from 0 s
data_by w (numbers n) others s = numbers_of n others s

unfoldable pub own_data_by : NameBytes → ℕ → List ℕ → Own
unfolding data_by kind_of opens
own_data_by w id s = data_by w (kind_of id).rule (opens id) s

-- With 01's bytes.
abbrev pub name_run : List ℕ → ℕ
name_run = run_by name_bytes

abbrev pub name_front : List ℕ → ℕ
name_front = front_by name_bytes

abbrev pub name_of : List ℕ → Own
name_of = name_by name_bytes

abbrev pub own_data : ℕ → List ℕ → Own
own_data = own_data_by name_bytes
