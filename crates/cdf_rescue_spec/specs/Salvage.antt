-- The rescue of a broken E/R group (02, f), from the bytes alone.
use Rattle.std.specs.Prelude.{ℕ, zero, suc, ◌+◌, ◌-◌, cond, List, [], ◌∷◌, ◌++◌, length, take, drop, ltb, eqb}
use Rattle.cdf_rescue_spec.specs.declared.Run.{Run}
use Rattle.cdf_unit_table.specs.Ids.{er_group}
use Rattle.cdf_unit_table.specs.States.{nothing}
use Rattle.cdf_unit_prefix.specs.Layout.{Layout, prefix_of, length_at}
use Rattle.cdf_unit_list.specs.Check.{check_in}
use Rattle.cdf_grammar.specs.Encoding.{unit_bytes}

-- The unit that stands whole at the front of s and that the rules accept in an E/R group: its length; 0 where there is none.
unfoldable pub whole_at : Layout → List ℕ → ℕ
unfolding check_in length_at nothing
whole_at l s = cond (eqb (check_in l (nothing er_group) s).number 0) (length_at l s) 0

-- What becomes of the bytes: a unit is kept, from its first byte to the byte after its last, or one byte is dropped.
pub data Piece : Type 0 where
  kept : ℕ → ℕ → Piece
  dropped : ℕ → Piece

-- The piece at a position, where a unit of this length stands, or none, and the pieces after it.
unfoldable pub piece_then : (ℕ → List Piece) → ℕ → ℕ → List Piece
piece_then more at zero = dropped at ∷ more (suc at)
piece_then more at (suc k) = kept at (at + suc k) ∷ more (at + suc k)

-- From a position on. Each piece takes one of the fuel: `length s` is enough, since then the end of s is reached first.
unfoldable pub pieces_from : ℕ → Layout → List ℕ → ℕ → List Piece
unfolding piece_then whole_at
pieces_from zero l s at = []
pieces_from (suc fuel) l s at = cond (ltb at (length s)) (piece_then (pieces_from fuel l s) at (whole_at l (drop at s))) []

-- The bytes of the root's prefix are not looked at.
unfoldable pub pieces : Layout → List ℕ → List Piece
unfolding pieces_from
pieces l s = pieces_from (length s) l s (prefix_of l)

-- The bytes that are kept, in order.
unfoldable pub kept_bytes : List ℕ → List Piece → List ℕ
kept_bytes s [] = []
kept_bytes s (kept from to ∷ ps) = take (to - from) (drop from s) ++ kept_bytes s ps
kept_bytes s (dropped at ∷ ps) = kept_bytes s ps

-- A run in front of others. Neighbours are joined.
unfoldable pub join_run : Run → List Run → List Run
join_run r [] = r ∷ []
join_run r (q ∷ qs) = cond (eqb r.to q.from) (record { from = r.from; to = q.to } ∷ qs) (r ∷ q ∷ qs)

unfoldable pub runs_of : List Piece → List Run
unfolding join_run
runs_of [] = []
runs_of (kept from to ∷ ps) = runs_of ps
runs_of (dropped at ∷ ps) = join_run (record { from = at; to = suc at }) (runs_of ps)

-- What a rescue answers: the number, the dropped runs, and the group that is written. A refusal tells no run and writes nothing.
pub record Rescued : Type 0 where
  pub number : ℕ
  pub runs : List Run
  pub group : List ℕ

abbrev pub refusal : ℕ → Rescued
refusal n = record { number = n; runs = []; group = [] }

abbrev pub most_runs : ℕ
most_runs = 64

-- An E/R group that holds these bytes.
unfoldable pub group_of : Layout → List ℕ → List ℕ
unfolding unit_bytes
group_of l inner = unit_bytes l er_group 0 [] inner

-- The numbers in their order: too few bytes, nothing to keep, too many runs, a group past the limit, no room for it.
unfoldable pub rescued : Layout → ℕ → List ℕ → List ℕ → List Run → Rescued
unfolding group_of
rescued l room s inner runs =
    cond (ltb (length s) (prefix_of l)) (refusal 3)
    (cond (eqb (length inner) 0) (refusal 16)
    (cond (ltb most_runs (length runs)) (refusal 17)
    (cond (ltb l.limit (prefix_of l + length inner)) (refusal 13)
    (cond (ltb room (prefix_of l + length inner)) (refusal 12)
    (record { number = 0; runs = runs; group = group_of l inner })))))

-- The rescue of s into a buffer of so many bytes.
unfoldable pub rescue_of : Layout → ℕ → List ℕ → Rescued
unfolding rescued kept_bytes runs_of pieces
rescue_of l room s = rescued l room s (kept_bytes s (pieces l s)) (runs_of (pieces l s))
