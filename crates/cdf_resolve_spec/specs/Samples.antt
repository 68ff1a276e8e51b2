-- Groups that are resolved, computed: of each the number, the offset and the count, and the list after it.
use Rattle.std.specs.Prelude.{ℕ, List, [], ◌∷◌, ◌++◌, length, set}
use Rattle.cdf_unit_prefix.specs.Layout.{layout_of}
use Rattle.cdf_unit_prefix.specs.declared.Edition.TheVariants.{First}
use Rattle.cdf_unit_list.specs.Samples.{k1, k2}
use Rattle.cdf_grammar.specs.Encoding.{unit_bytes}
use Rattle.cdf_resolve_spec.specs.Resolve.{Resolved, refusal, resolved_of, list_after}

-- A unit of the first edition: its id and action, its own data, the units in it.
unfoldable unit : ℕ → ℕ → List ℕ → List ℕ → List ℕ
unfolding unit_bytes
unit id action text inner = unit_bytes (layout_of First) id action text inner

-- The names A and AB.
abbrev a : List ℕ
a = 1 ∷ 0x41 ∷ []

abbrev ab : List ℕ
ab = 2 ∷ 0x41 ∷ 0x42 ∷ []

-- A key of this kind, 6 or 7, with these four bytes; a template and an entity key with it, of 18 bytes if the name is A; a relation of two of
-- these, whose entity keys start 10 behind it; an E/R group.
unfoldable key : ℕ → ℕ → List ℕ
unfolding unit
key kind n = unit kind 0 (0 ∷ 0 ∷ 0 ∷ n ∷ []) []

unfoldable person : List ℕ → ℕ → ℕ → List ℕ
unfolding unit key
person name kind n = unit 5 1 name (key kind n)

unfoldable end : List ℕ → ℕ → ℕ → List ℕ
unfolding unit key
end name kind n = unit 11 0 name (key kind n)

unfoldable between : List ℕ → List ℕ → List ℕ
unfolding unit
between one other = unit 9 1 (0 ∷ 0 ∷ 0 ∷ 9 ∷ []) (one ++ other)

unfoldable group : List ℕ → List ℕ
unfolding unit
group units = unit 4 0 [] units

-- Both ends of a relation mean one.
unfoldable pub one_meant : List ℕ
unfolding group person between end
one_meant = group (person a 6 1 ++ between (end a 6 1) (end a 6 1))

pub record Outcome : Type 0 where
  pub answer : Resolved
  pub list : List ℕ

-- A group of the first edition, with a list.
unfoldable resolved : List ℕ → List ℕ → Outcome
unfolding resolved_of list_after
resolved s list = record { answer = resolved_of (layout_of First) s (length list); list = list_after (layout_of First) s list }

unfoldable pub samples_found : List Outcome
unfolding resolved group person between end one_meant
samples_found =
    -- a longer list keeps its tail; one that is just long enough; one too short by one
    resolved one_meant (8 ∷ 8 ∷ 9 ∷ [])
    ∷ resolved one_meant (8 ∷ 8 ∷ [])
    ∷ resolved one_meant (8 ∷ [])
    -- the ranks of two, in the order of the entity keys; relations count in a rank, and an ordered one has ends
    ∷ resolved (group (person a 6 1 ++ person a 6 2 ++ between (end a 6 2) (end a 6 1))) (8 ∷ 8 ∷ [])
    ∷ resolved
    (group
    (person a 6 1 ++ between (end a 6 1) (end a 6 1) ++ person ab 6 1
    ++ unit 10 1 (0 ∷ 0 ∷ 0 ∷ 9 ∷ 0 ∷ 0 ∷ 0 ∷ 1 ∷ []) (end a 6 1 ++ end ab 6 1)))
    (8 ∷ 8 ∷ 8 ∷ 8 ∷ [])
    -- a template behind the relation does not count
    ∷ resolved (group (between (end a 6 1) (end a 6 1) ++ person a 6 1)) (8 ∷ 8 ∷ [])
    -- nor one with a name that begins like it, with another number, or with a key of the other kind; so also where the list is short
    ∷ resolved (group (person a 6 1 ++ between (end ab 6 1) (end a 6 1))) (8 ∷ 8 ∷ [])
    ∷ resolved (group (person a 6 1 ++ between (end a 6 1) (end a 6 2))) (8 ∷ 8 ∷ [])
    ∷ resolved (group (person a 7 1 ++ between (end a 6 1) (end a 6 1))) []
    -- entity keys of the other kind are not resolved, and no list is needed
    ∷ resolved (group (person a 6 1 ++ between (end a 7 1) (end ab 7 1))) []
    -- a template that is to be deleted is meant like any other
    ∷ resolved (group (unit 5 4 a (key 6 1) ++ between (end a 6 1) (end a 7 2))) (8 ∷ 8 ∷ [])
    -- the later of two templates is doubled; templates with keys of the other kind are not
    ∷ resolved (group (person a 6 1 ++ person a 6 1)) (8 ∷ [])
    ∷ resolved (group (person a 7 1 ++ person a 7 1 ++ person a 6 1 ++ person ab 6 1)) (8 ∷ [])
    -- a doubled template is told before an entity key without one, though that stands first
    ∷ resolved (group (between (end a 6 1) (end a 6 1) ++ person a 6 2 ++ person a 6 2)) []
    -- another root, also where such a group stands in it; and a fault, which comes first
    ∷ resolved k1 []
    ∷ resolved (unit 1 0 [] (unit 2 0 a [] ++ one_meant)) (8 ∷ 8 ∷ [])
    ∷ resolved (set k2 33 0) []
    ∷ []

abbrev outcome : Resolved → List ℕ → Outcome
outcome answer list = record { answer = answer; list = list }

abbrev count : ℕ → Resolved
count n = record { number = 0; offset = 0; count = n }

abbrev pub samples_due : List Outcome
samples_due =
    outcome (count 2) (0 ∷ 0 ∷ 9 ∷ [])
    ∷ outcome (count 2) (0 ∷ 0 ∷ [])
    ∷ outcome (refusal 12 0) (8 ∷ [])
    ∷ outcome (count 2) (1 ∷ 0 ∷ [])
    ∷ outcome (count 4) (0 ∷ 0 ∷ 0 ∷ 2 ∷ [])
    ∷ outcome (refusal 20 16) (8 ∷ 8 ∷ [])
    ∷ outcome (refusal 20 34) (8 ∷ 8 ∷ [])
    ∷ outcome (refusal 20 52) (8 ∷ 8 ∷ [])
    ∷ outcome (refusal 20 34) []
    ∷ outcome (count 0) []
    ∷ outcome (count 1) (0 ∷ 8 ∷ [])
    ∷ outcome (refusal 19 24) (8 ∷ [])
    ∷ outcome (count 0) (8 ∷ [])
    ∷ outcome (refusal 19 70) []
    ∷ outcome (refusal 7 0) []
    ∷ outcome (refusal 7 0) (8 ∷ 8 ∷ [])
    ∷ outcome (refusal 8 29) []
    ∷ []
