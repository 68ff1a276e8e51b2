-- Each arm by its rule, and any other id by its own data without a name.
use Rattle.std.proofs.Common.{◌≡◌, [], ◌∷◌}
use Rattle.cdf_unit_table.proofs.Match.{each}
use Rattle.cdf_unit_data.specs.Data.{own_data_by}
use Rattle.cdf_unit_own.proofs.own_data.Goals as goal

pub unnamed-requires : goal.unnamed-requires
unnamed-requires g c = (c.in_default.in_default-own.rest.0.1, c.in_default.in_default-own.rest.1)

pub returns-in-2 : goal.returns-in-2
unfolding own_data_by
returns-in-2 g c =
    let a = c.args in
    each (λ k. c.name.result ≡ own_data_by (g.R.NameRow.bytes a.row.now) k a.s.now) (2 ∷ 5 ∷ 11 ∷ [])
    (c.name.ensures, (c.name.ensures, (c.name.ensures, tt))) _ c.in-2.is

pub returns-in-3 : goal.returns-in-3
unfolding own_data_by
returns-in-3 g c =
    let a = c.args in
    each (λ k. c.name_and_value.result ≡ own_data_by (g.R.NameRow.bytes a.row.now) k a.s.now) (3 ∷ 8 ∷ [])
    (c.name_and_value.ensures, (c.name_and_value.ensures, tt)) _ c.in-3.is

pub returns-in_default : goal.returns-in_default
returns-in_default g c = c.unnamed.ensures _
