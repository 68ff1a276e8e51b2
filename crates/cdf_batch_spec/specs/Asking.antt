-- What one request of a list asks for, and what it answers at a place (02, j).
use Rattle.std.specs.Prelude.{ℕ, ◌-◌, Bool, cond, ◌&&◌, ◌||◌, List, [], map, length, take, drop, leb, eqb}
use Rattle.cdf_unit_prefix.specs.Layout.{Layout}
use Rattle.cdf_builder_spec.specs.Place.{BuilderPlace}
use Rattle.cdf_builder_spec.specs.Requests.{Request, unit}
use Rattle.cdf_builder_spec.specs.Calls.{Decision, decide_of}
use Rattle.cdf_builder_spec.specs.Orders.{Rule, first_broken, next_rules}
use Rattle.cdf_batch_spec.specs.declared.UnitRequest.{UnitRequest}

-- Its bounds are good: they lie in the text and do not cross.
abbrev pub bounded : List ℕ → UnitRequest → Bool
bounded text r = leb r.begin r.end && leb r.end (length text)

-- NEXT with its id and action, and this own data.
abbrev pub with : UnitRequest → List ℕ → Request
with r own = unit (record { id = r.id; action = r.action; text = own })

-- With the part of the text that it names.
abbrev pub asked : List ℕ → UnitRequest → Request
asked text r = with r (take (r.end - r.begin) (drop r.begin text))

-- Rule 9 is broken, whatever the own data.
abbrev pub nine : Rule → Rule
nine q = record { number = q.number; broken = eqb q.number 9 || q.broken }

-- Where the bounds are bad there is no own data, and 9 stands in its place among NEXT's rules.
unfoldable pub unbounded : Layout → ℕ → BuilderPlace → UnitRequest → ℕ
unfolding first_broken next_rules
unbounded l n p r = first_broken (map nine (next_rules l n p (record { id = r.id; action = r.action; text = [] })))

-- What it answers with a buffer of n bytes: what the builder decides, if its bounds are good.
unfoldable pub judged : Layout → ℕ → List ℕ → BuilderPlace → UnitRequest → Decision
unfolding decide_of unbounded
judged l n text p r =
    cond (bounded text r) (decide_of l n p (asked text r)) (record { number = unbounded l n p r; place = p })
