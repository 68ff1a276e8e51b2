-- Runs of the builder: calls from one start, each given the place that the last one returned, on one buffer.
use Rattle.std.specs.Prelude.{ℕ, ◌+◌, ◌≡◌, cond, List, [], ◌∷◌, ◌++◌, eqb, length}
use Rattle.cdf_unit_prefix.specs.Layout.{Layout}
use Rattle.cdf_grammar.specs.Encoding.{Bytes, Item}
use Rattle.cdf_grammar.specs.Claims.{items_of}
use Rattle.cdf_builder_spec.specs.Requests.{Request, unit, group, bytes_for}
use Rattle.cdf_builder_spec.specs.Calls.{Reply, call_of}

-- What a start asks for: a root has no action and no own data.
abbrev pub root_item : ℕ → Item
root_item id = record { id = id; action = 0; text = [] }

-- What a call answers after the one that answered `a`.
abbrev pub answer : Layout → Reply → Request → Reply
answer l a r = call_of l a.buffer a.place r

-- The last answer of these calls.
unfoldable pub run : Layout → Reply → List Request → Reply
unfolding call_of
run l a [] = a
run l a (r ∷ rs) = run l (answer l a r) rs

-- Every one of these calls, and the one before them, answers 0.
abbrev pub AllDone : Layout → Reply → List Request → Type 0
AllDone l a [] = a.number ≡ 0
AllDone l a (r ∷ rs) = (a.number ≡ 0) × AllDone l (answer l a r) rs

-- The calls that answer 0; the others are left out.
unfoldable pub done : Layout → Reply → List Request → List Request
unfolding call_of
done l a [] = []
done l a (r ∷ rs) =
    cond (eqb (answer l a r).number 0) (r ∷ done l (answer l a r) rs) (done l a rs)

-- Two replies leave the same place and the same buffer.
abbrev pub Alike : Reply → Reply → Type 0
Alike a b = (a.place ≡ b.place) × (a.buffer ≡ b.buffer)

-- How many bytes the requests take.
unfoldable pub sizes : Layout → List Request → ℕ
unfolding bytes_for
sizes l [] = 0
sizes l (r ∷ rs) = length (bytes_for l r) + sizes l rs

-- What the requested units say, in order: a group says what its units do.
unfoldable pub items_by : Layout → Request → List Item
unfolding items_of
items_by l (unit u) = u ∷ []
items_by l (group g) = items_of l g

unfoldable pub requested : Layout → List Request → List Item
unfolding items_by
requested l [] = []
requested l (r ∷ rs) = items_by l r ++ requested l rs

-- What is lent to a call is bytes.
abbrev pub Lent : Request → Type 0
Lent (unit u) = Bytes u.text
Lent (group g) = Bytes g

abbrev pub AllLent : List Request → Type 0
AllLent [] = record {}
AllLent (r ∷ rs) = Lent r × AllLent rs
