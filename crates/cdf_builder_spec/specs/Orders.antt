-- In which order the builder's rules are asked (01, "Builder"): a list for each call, of a rule's number and whether it is broken. A
-- call tells the number of the first that is broken, and 0 where none is.
use Rattle.std.specs.Prelude.{ℕ, ◌+◌, Bool, cond, not, List, [], ◌∷◌, length, ltb, eqb}
use Rattle.cdf_unit_table.specs.Ids.{known, action_allowed}
use Rattle.cdf_unit_table.specs.States.{root_kind}
use Rattle.cdf_unit_prefix.specs.Layout.{Layout, prefix_of, id_at}
use Rattle.cdf_grammar.specs.Encoding.{Item}
use Rattle.cdf_builder_spec.specs.declared.Begun.{Begun}
use Rattle.cdf_builder_spec.specs.Place.{BuilderPlace, fits}
use Rattle.cdf_builder_spec.specs.Requests.{Request, unit, group, bytes_for, joining, ending, completed, right_data, accepted_group}

pub record Rule : Type 0 where
  pub number : ℕ
  pub broken : Bool

unfoldable pub first_broken : List Rule → ℕ
first_broken [] = 0
first_broken (r ∷ rs) = cond r.broken r.number (first_broken rs)

-- No open unit admits the id; a unit inside the one that does is incomplete.
abbrev pub homeless : ℕ → List Begun → Bool
homeless id os = eqb (length (joining id os)) 0

abbrev pub incomplete : ℕ → List Begun → Bool
incomplete id os = not (completed (ending id os))

-- How many bytes there would be with a request's.
abbrev pub size_with : Layout → BuilderPlace → Request → ℕ
size_with l p r = p.written + length (bytes_for l r)

unfoldable pub start_rules : Layout → ℕ → ℕ → List Rule
unfolding known root_kind
start_rules l n id =
    record { number = 6; broken = not (known id) }
    ∷ record { number = 7; broken = not (root_kind id) }
    ∷ record { number = 12; broken = ltb n (prefix_of l) }
    ∷ []

unfoldable pub next_rules : Layout → ℕ → BuilderPlace → Item → List Rule
unfolding fits known joining ending completed action_allowed right_data bytes_for
next_rules l n p u =
    record { number = 2; broken = not (fits l n p) }
    ∷ record { number = 6; broken = not (known u.id) }
    ∷ record { number = 7; broken = homeless u.id p.units }
    ∷ record { number = 10; broken = incomplete u.id p.units }
    ∷ record { number = 8; broken = not (action_allowed u.id u.action) }
    ∷ record { number = 9; broken = not (right_data u.id u.text) }
    ∷ record { number = 13; broken = ltb l.limit (size_with l p (unit u)) }
    ∷ record { number = 12; broken = ltb n (size_with l p (unit u)) }
    ∷ []

unfoldable pub add_rules : Layout → ℕ → BuilderPlace → List ℕ → List Rule
unfolding fits accepted_group id_at joining ending completed bytes_for
add_rules l n p g =
    record { number = 2; broken = not (fits l n p) }
    ∷ record { number = 14; broken = not (accepted_group l g) }
    ∷ record { number = 7; broken = homeless (id_at l g) p.units }
    ∷ record { number = 10; broken = incomplete (id_at l g) p.units }
    ∷ record { number = 13; broken = ltb l.limit (size_with l p (group g)) }
    ∷ record { number = 12; broken = ltb n (size_with l p (group g)) }
    ∷ []

unfoldable pub finish_rules : Layout → ℕ → BuilderPlace → List Rule
unfolding fits completed
finish_rules l n p =
    record { number = 2; broken = not (fits l n p) } ∷ record { number = 10; broken = not (completed p.units) } ∷ []
