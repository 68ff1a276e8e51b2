-- The pieces of a rescue in the words of the published grammar, and what its runs are.
use Rattle.std.specs.Prelude.{ℕ, suc, ◌-◌, ◌^◌, ◌≤◌, ◌<◌, ◌≡◌, List, [], ◌∷◌, map, ◌⊎◌, length, take, drop}
use Rattle.cdf_unit_table.specs.Ids.{er_group, template, relation, ordered_relation}
use Rattle.cdf_unit_prefix.specs.Layout.{Layout, prefix_of}
use Rattle.cdf_grammar.specs.Trees.{Forest, none, tree, ids, singly}
use Rattle.cdf_grammar.specs.Published.{Among, Conforms}
use Rattle.cdf_grammar.specs.Encoding.{Stream, encode}
use Rattle.cdf_grammar.specs.Groups.{group_bytes}
use Rattle.cdf_rescue_spec.specs.Salvage.{Piece, kept, dropped, pieces, runs_of, refusal, rescue_of}
use Rattle.cdf_rescue_spec.specs.declared.Run.{Run}

-- The bytes are one whole unit that an E/R group may hold, in the words of the published grammar; its length can be written.
pub record Whole (l : Layout) (s : List ℕ) : Type 0 where
  pub unit : Forest
  pub id : ℕ
  pub one : ids unit ≡ id ∷ []
  pub held : Among id (template ∷ relation ∷ ordered_relation ∷ [])
  pub right : Conforms unit
  pub bytes : encode l unit ≡ s
  pub short : length s < 256 ^ l.length_bytes

-- The pieces are all bytes from a to b, one piece behind the other.
abbrev pub Tiles : ℕ → ℕ → List Piece → Type 0
Tiles a b [] = a ≡ b
Tiles a b (kept from to ∷ ps) = (from ≡ a) × (a < to) × Tiles to b ps
Tiles a b (dropped at ∷ ps) = (at ≡ a) × Tiles (suc a) b ps

-- A piece is kept where it is such a unit, and one byte is dropped where none begins, however long.
abbrev pub Decided : Layout → List ℕ → List Piece → Type 0
Decided l s [] = record {}
Decided l s (kept from to ∷ ps) = Whole l (take (to - from) (drop from s)) × Decided l s ps
Decided l s (dropped at ∷ ps) = ((n : ℕ) → Whole l (take n (drop at s)) → ⊥) × Decided l s ps

-- No run is empty, and between two of them stands a byte at least.
abbrev pub Apart : List Run → Type 0
Apart [] = record {}
Apart (r ∷ []) = r.from < r.to
Apart (r ∷ q ∷ rs) = (r.from < r.to) × (r.to < q.from) × Apart (q ∷ rs)

abbrev pub InRuns : ℕ → List Run → Type 0
InRuns i [] = ⊥
InRuns i (r ∷ rs) = ((r.from ≤ i) × (i < r.to)) ⊎ InRuns i rs

abbrev pub IsDropped : ℕ → List Piece → Type 0
IsDropped i [] = ⊥
IsDropped i (kept from to ∷ ps) = IsDropped i ps
IsDropped i (dropped at ∷ ps) = (i ≡ at) ⊎ IsDropped i ps

-- The bytes of each piece that is kept, in order.
unfoldable pub kept_units : List ℕ → List Piece → List (List ℕ)
kept_units s [] = []
kept_units s (kept from to ∷ ps) = take (to - from) (drop from s) ∷ kept_units s ps
kept_units s (dropped at ∷ ps) = kept_units s ps

-- Where the first holds the second does, and elsewhere the third.
abbrev pub If : Type 0 → Type 0 → Type 0 → Type 0
If a b c = (a → b) × ((a → ⊥) → c)

-- The number that a rescue answers is the first here that applies; a refusal tells no run and writes nothing.
abbrev pub Refuses : Layout → ℕ → List ℕ → Type 0
Refuses l room s =
    let units = kept_units s (pieces l s) in
    let size = length (group_bytes l er_group units) in
    let answer = rescue_of l room s in
    If (length s < prefix_of l) (answer ≡ refusal 3)
    (If (units ≡ []) (answer ≡ refusal 16)
    (If (64 < length (runs_of (pieces l s))) (answer ≡ refusal 17)
    (If (l.limit < size) (answer ≡ refusal 13)
    (If (room < size) (answer ≡ refusal 12)
    (answer.number ≡ 0)))))

-- A rescue that answers 0: what is written is an accepted E/R group of what was kept, there is room for it, and all runs are told.
pub record Group (l : Layout) (room : ℕ) (s : List ℕ) : Type 0 where
  pub held : Forest
  pub stream : Stream l (rescue_of l room s).group (tree er_group 0 [] held none)
  pub units : map (encode l) (singly held) ≡ kept_units s (pieces l s)
  pub fits : length (rescue_of l room s).group ≤ room
  pub told : (rescue_of l room s).runs ≡ runs_of (pieces l s)
