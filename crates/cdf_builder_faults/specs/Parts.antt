-- What the functions here tell by themselves.
use Rattle.std.specs.Prelude.{ℕ, cond, not, List, Option, Some, None}
use Rattle.cdf_unit_table.specs.Ids.{action_allowed}
use Rattle.cdf_unit_prefix.specs.Layout.{Layout, id_at}
use Rattle.cdf_builder_spec.specs.Requests.{right_data, accepted_group}

-- 8: the action is not allowed for this id. 9: the own data is not right for it.
unfoldable pub own_fault : ℕ → ℕ → List ℕ → ℕ
unfolding action_allowed right_data
own_fault id action text = cond (not (action_allowed id action)) 8 (cond (not (right_data id text)) 9 0)

-- The root's id of a group that is accepted, and of no other bytes.
unfoldable pub group_of : Layout → List ℕ → Option ℕ
unfolding accepted_group id_at
group_of l g = cond (accepted_group l g) (Some (id_at l g)) None
