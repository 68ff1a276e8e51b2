-- How many bytes requests take.
use Rattle.std.proofs.Common.{ℕ, ◌+◌, ◌≡◌, List, [], ◌∷◌, ◌++◌, inl, inr, arith, length, length-append}
use Rattle.cdf_unit_prefix.specs.Layout.{Layout, prefix_of}
use Rattle.cdf_grammar.specs.Trees.{Forest, none, tree}
use Rattle.cdf_grammar.specs.Encoding.{encode, Item}
use Rattle.cdf_grammar.proofs.Built.{encode_none, encode_tree, length_unit}
use Rattle.cdf_builder_spec.specs.Requests.{Request, unit, group}
use Rattle.cdf_builder_spec.proofs.Replying.{unit_size}
use Rattle.cdf_builder_runs.specs.Runs.{sizes}
use Rattle.cdf_builder_runs.specs.Telling.{Tells}
use Rattle.cdf_builder_runs.proofs.Rooms.{sizes_on, sizes_end}
use Rattle.cdf_builder_runs.proofs.Taken.{bytes_group}

module _ (l : Layout) where
  pub sizes_append : (xs ys : List Request) → sizes l (xs ++ ys) ≡ sizes l xs + sizes l ys
  sizes_append [] ys = rw (sizes_end l) (omega arith)
  sizes_append (x ∷ xs) ys = rw (sizes_on l x (xs ++ ys), sizes_on l x xs, sizes_append xs ys) (omega arith)

  pub tree_size : (id action : ℕ) (text : List ℕ) (inner rest : Forest) →
      length (encode l (tree id action text inner rest)) ≡ prefix_of l + (length text + length (encode l inner)) + length (encode l rest)
  tree_size id action text inner rest = rw (encode_tree l, length-append, length_unit l)

  -- Requests take as many bytes as the trees that they tell of.
  pub tells_sizes : (f : Forest) (rs : List Request) → Tells l f rs → sizes l rs ≡ length (encode l f)
  tells_sizes none rs t = rw (t, sizes_end l, encode_none)
  tells_sizes (tree id action text inner rest) rs (inl (within, after, is, told, later)) =
      let u : Item = record { id = id; action = action; text = text } in
      rw (
        is,
        sizes_on l (unit u) (within ++ after),
        sizes_append within after,
        tells_sizes inner within told,
        tells_sizes rest after later,
        unit_size l u,
        tree_size id action text inner rest,
      ) (omega arith)
  tells_sizes (tree id action text inner rest) rs (inr (g, after, is, kind, s, later)) =
      let none-size : length (encode l none) ≡ 0 = rw encode_none in
      let long : length g ≡ prefix_of l + (length text + length (encode l inner)) =
      rw (← s.bytes, tree_size id action text inner none) (omega arith) in
      rw (is, sizes_on l (group g) after, tells_sizes rest after later, bytes_group l g, tree_size id action text inner rest, long)
