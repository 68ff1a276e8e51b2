-- Lookups that are computed: of each the number, the offset, the stream, and start and size of the part.
use Rattle.std.specs.Prelude.{ℕ, List, [], ◌∷◌, set}
use Rattle.cdf_unit_prefix.specs.Layout.{layout_of}
use Rattle.cdf_unit_prefix.specs.declared.Edition.TheVariants.{First}
use Rattle.cdf_unit_list.specs.Samples.{k1, k2}
use Rattle.cdf_lookup_spec.specs.Find.{Query, query, Lookup, refusal, lookup_of}

-- PERSON and SURNAME, with their counts
abbrev person : List ℕ
person = 6 ∷ 0x50 ∷ 0x45 ∷ 0x52 ∷ 0x53 ∷ 0x4f ∷ 0x4e ∷ []

abbrev surname : List ℕ
surname = 7 ∷ 0x53 ∷ 0x55 ∷ 0x52 ∷ 0x4e ∷ 0x41 ∷ 0x4d ∷ 0x45 ∷ []

-- The surname of K2's person.
abbrev pub surname_asked : Query
surname_asked = query person 6 (0 ∷ 0 ∷ 0 ∷ 1 ∷ []) surname

-- K2 with another key, and K2 with an empty surname.
abbrev pub other_key : List ℕ
other_key = set k2 28 2

abbrev pub no_surname : List ℕ
no_surname =
    0xcd ∷ 0xf1 ∷ 0 ∷ 0x2b ∷ 0 ∷ 4
    ∷ 0xcd ∷ 0xf1 ∷ 0 ∷ 0x25 ∷ 1 ∷ 5 ∷ 6 ∷ 0x50 ∷ 0x45 ∷ 0x52 ∷ 0x53 ∷ 0x4f ∷ 0x4e
    ∷ 0xcd ∷ 0xf1 ∷ 0 ∷ 0x0a ∷ 0 ∷ 6 ∷ 0 ∷ 0 ∷ 0 ∷ 1
    ∷ 0xcd ∷ 0xf1 ∷ 0 ∷ 0x0e ∷ 1 ∷ 8 ∷ 7 ∷ 0x53 ∷ 0x55 ∷ 0x52 ∷ 0x4e ∷ 0x41 ∷ 0x4d ∷ 0x45 ∷ []

-- Two templates P: one with the keys A and B and no field, one with the key A and the field N.
abbrev pub two_persons : List ℕ
two_persons =
    0xcd ∷ 0xf1 ∷ 0 ∷ 0x34 ∷ 0 ∷ 4
    ∷ 0xcd ∷ 0xf1 ∷ 0 ∷ 0x16 ∷ 1 ∷ 5 ∷ 1 ∷ 0x50
    ∷ 0xcd ∷ 0xf1 ∷ 0 ∷ 7 ∷ 0 ∷ 7 ∷ 0x41
    ∷ 0xcd ∷ 0xf1 ∷ 0 ∷ 7 ∷ 0 ∷ 7 ∷ 0x42
    ∷ 0xcd ∷ 0xf1 ∷ 0 ∷ 0x18 ∷ 1 ∷ 5 ∷ 1 ∷ 0x50
    ∷ 0xcd ∷ 0xf1 ∷ 0 ∷ 7 ∷ 0 ∷ 7 ∷ 0x41
    ∷ 0xcd ∷ 0xf1 ∷ 0 ∷ 9 ∷ 1 ∷ 8 ∷ 1 ∷ 0x4e ∷ 0x78 ∷ []

-- One template P with the keys A and B and the field N.
abbrev pub two_keys : List ℕ
two_keys =
    0xcd ∷ 0xf1 ∷ 0 ∷ 0x25 ∷ 0 ∷ 4
    ∷ 0xcd ∷ 0xf1 ∷ 0 ∷ 0x1f ∷ 1 ∷ 5 ∷ 1 ∷ 0x50
    ∷ 0xcd ∷ 0xf1 ∷ 0 ∷ 7 ∷ 0 ∷ 7 ∷ 0x41
    ∷ 0xcd ∷ 0xf1 ∷ 0 ∷ 7 ∷ 0 ∷ 7 ∷ 0x42
    ∷ 0xcd ∷ 0xf1 ∷ 0 ∷ 9 ∷ 1 ∷ 8 ∷ 1 ∷ 0x4e ∷ 0x78 ∷ []

-- N of the P whose key is this byte.
abbrev pub field_asked : ℕ → Query
field_asked key = query (1 ∷ 0x50 ∷ []) 7 (key ∷ []) (1 ∷ 0x4e ∷ [])

-- In two streams of the first edition.
unfoldable look : List ℕ → List ℕ → Query → Lookup
unfolding lookup_of
look s t q = lookup_of (layout_of First) (layout_of First) s t q

unfoldable pub samples_found : List Lookup
unfolding look
samples_found =
    look k2 k2 surname_asked
    ∷ look other_key k2 surname_asked
    ∷ look other_key other_key surname_asked
    ∷ look no_surname k2 surname_asked
    ∷ look k2 no_surname surname_asked
    -- a name that is none, a key id that is no key's
    ∷ look k2 k2 (query [] 6 (0 ∷ 0 ∷ 0 ∷ 1 ∷ []) surname)
    ∷ look k2 k2 (query person 8 (0 ∷ 0 ∷ 0 ∷ 1 ∷ []) surname)
    -- a root that is no E/R group; the checks come before it, the first stream's first
    ∷ look k1 k2 surname_asked
    ∷ look k2 k1 surname_asked
    ∷ look k1 (set k2 33 0) surname_asked
    ∷ look (set k1 9 0x0b) (set k2 33 0) surname_asked
    -- the first template with the key has no field, though a later one has it
    ∷ look two_persons two_persons (field_asked 0x41)
    -- its first key finds a template, and a later one does not
    ∷ look two_keys two_keys (field_asked 0x41)
    ∷ look two_keys two_keys (field_asked 0x42)
    -- once its key is another, the second template is the first with that key
    ∷ look (set two_persons 42 0x43) k2 (field_asked 0x43)
    ∷ look two_persons (set two_persons 42 0x43) (field_asked 0x43)
    ∷ []

abbrev value : ℕ → ℕ → ℕ → Lookup
value which start size = record { number = 0; offset = 0; which = which; start = start; size = size }

abbrev pub samples_due : List Lookup
samples_due =
    value 1 43 3
    ∷ value 2 43 3
    ∷ refusal 15 0
    ∷ value 1 43 0
    ∷ value 1 43 3
    ∷ refusal 15 0
    ∷ refusal 15 0
    ∷ refusal 7 0
    ∷ refusal 7 0
    ∷ refusal 8 29
    ∷ refusal 5 6
    ∷ refusal 15 0
    ∷ value 1 36 1
    ∷ refusal 15 0
    ∷ value 1 51 1
    ∷ value 2 51 1
    ∷ []
