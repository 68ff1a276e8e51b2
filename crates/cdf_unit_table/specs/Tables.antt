-- What the states and the rows come to, by id, as tables to compare with 01's: the states of each unit, and the kinds that it
-- admits.
use Rattle.std.specs.Prelude.{ℕ, zero, suc, Bool, cond, List, [], ◌∷◌, ◌++◌, map, eqb}
use Rattle.cdf_unit_table.specs.Ids.{stream, call, parameter, er_group, template, temporary_key, template_key, field}
use Rattle.cdf_unit_table.specs.Ids.{relation, ordered_relation, entity_key, relation_key, file_group, line}
use Rattle.cdf_unit_table.specs.States.{unit_of, admits_kind, stream_new, stream_call, stream_group, stream_skipped}
use Rattle.cdf_unit_table.specs.States.{er_new, er_data, er_skipped, file_new, file_lines, file_skipped}
use Rattle.cdf_unit_table.specs.States.{call_new, call_parameters, call_skipped}
use Rattle.cdf_unit_table.specs.States.{template_new, template_temporary, template_keys, template_fields, template_skipped}
use Rattle.cdf_unit_table.specs.States.{relation_new, relation_source, relation_target, relation_skipped}
use Rattle.cdf_unit_table.specs.States.{ordered_new, ordered_source, ordered_target, ordered_skipped}
use Rattle.cdf_unit_table.specs.States.{entity_new, entity_temporary, entity_keys, entity_skipped}

-- The numbers below a bound that pass a test, rising.
unfoldable pub those : (ℕ → Bool) → ℕ → List ℕ
those f zero = []
those f (suc n) = those f n ++ cond (f n) (n ∷ []) []

abbrev pub all_ids : List ℕ
all_ids =
    stream
    ∷ call
    ∷ parameter
    ∷ er_group
    ∷ template
    ∷ temporary_key
    ∷ template_key
    ∷ field
    ∷ relation
    ∷ ordered_relation
    ∷ entity_key
    ∷ relation_key
    ∷ file_group
    ∷ line
    ∷ []

-- What is told of an id.
pub record Entry : Type 0 where
  pub id : ℕ
  pub has : List ℕ

abbrev entry : ℕ → List ℕ → Entry
entry id has = record { id = id; has = has }

-- For each id the numbers below a bound that pass its test.
unfoldable pub table_of : (ℕ → ℕ → Bool) → ℕ → List Entry
unfolding those
table_of f n = map (λ id. entry id (those (f id) n)) all_ids

-- The states of each unit. The bound is past the last state.
unfoldable pub states_found : List Entry
unfolding table_of unit_of
states_found = table_of (λ id state. eqb (unit_of state) id) 40

abbrev pub states_due : List Entry
states_due =
    entry stream (stream_new ∷ stream_call ∷ stream_group ∷ stream_skipped ∷ [])
    ∷ entry call (call_new ∷ call_parameters ∷ call_skipped ∷ [])
    ∷ entry parameter []
    ∷ entry er_group (er_new ∷ er_data ∷ er_skipped ∷ [])
    ∷ entry template (template_new ∷ template_temporary ∷ template_keys ∷ template_fields ∷ template_skipped ∷ [])
    ∷ entry temporary_key []
    ∷ entry template_key []
    ∷ entry field []
    ∷ entry relation (relation_new ∷ relation_source ∷ relation_target ∷ relation_skipped ∷ [])
    ∷ entry ordered_relation (ordered_new ∷ ordered_source ∷ ordered_target ∷ ordered_skipped ∷ [])
    ∷ entry entity_key (entity_new ∷ entity_temporary ∷ entity_keys ∷ entity_skipped ∷ [])
    ∷ entry relation_key []
    ∷ entry file_group (file_new ∷ file_lines ∷ file_skipped ∷ [])
    ∷ entry line []
    ∷ []

-- The kinds that each unit admits. The bound is past the last id.
unfoldable pub kinds_found : List Entry
unfolding table_of admits_kind
kinds_found = table_of admits_kind 20

abbrev pub kinds_due : List Entry
kinds_due =
    entry stream (call ∷ er_group ∷ file_group ∷ [])
    ∷ entry call (parameter ∷ [])
    ∷ entry parameter []
    ∷ entry er_group (template ∷ relation ∷ ordered_relation ∷ [])
    ∷ entry template (temporary_key ∷ template_key ∷ field ∷ [])
    ∷ entry temporary_key []
    ∷ entry template_key []
    ∷ entry field []
    ∷ entry relation (entity_key ∷ relation_key ∷ [])
    ∷ entry ordered_relation (entity_key ∷ relation_key ∷ [])
    ∷ entry entity_key (temporary_key ∷ template_key ∷ [])
    ∷ entry relation_key []
    ∷ entry file_group (line ∷ [])
    ∷ entry line []
    ∷ []
