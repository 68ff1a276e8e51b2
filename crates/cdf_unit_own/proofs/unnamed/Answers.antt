-- Each arm by its rule; any other id has no own data, by a test over the kinds.
use Rattle.std.proofs.Common.{ℕ, ◌≡◌, List, [], ◌∷◌}
use Rattle.cdf_unit_table.specs.Ids.{member, kind_of}
use Rattle.cdf_unit_table.proofs.Match.{each}
use Rattle.cdf_unit_table.proofs.Others.{blank_else}
use Rattle.cdf_unit_data.specs.Data.{own_data_by}
use Rattle.cdf_unit_own.proofs.unnamed.Goals as goal

pub returns-in-7 : goal.returns-in-7
unfolding own_data_by
returns-in-7 c =
    let s = c.args.s.now in
    λ w. each (λ k. c.value.result ≡ own_data_by w k s) (7 ∷ 14 ∷ []) (c.value.ensures, (c.value.ensures, tt)) _ c.in-7.is

pub returns-in-6 : goal.returns-in-6
unfolding own_data_by
returns-in-6 c =
    let s = c.args.s.now in
    λ w. each (λ k. c.numbers.result ≡ own_data_by w k s) (6 ∷ 12 ∷ []) (c.numbers.ensures, (c.numbers.ensures, tt)) _ c.in-6.is

pub returns-in-9 : goal.returns-in-9
unfolding own_data_by
returns-in-9 c =
    let s = c.args.s.now in
    λ w. each (λ k. c.numbers-in-9.result ≡ own_data_by w k s) (9 ∷ []) (c.numbers-in-9.ensures, tt) _ c.in-9.is

pub returns-in-10 : goal.returns-in-10
unfolding own_data_by
returns-in-10 c =
    let s = c.args.s.now in
    λ w. each (λ k. c.numbers-in-10.result ≡ own_data_by w k s) (10 ∷ []) (c.numbers-in-10.ensures, tt) _ c.in-10.is

pub returns-in_default : goal.returns-in_default
unfolding own_data_by kind_of member
returns-in_default c =
    let keys : List (List ℕ) = (3 ∷ 8 ∷ []) ∷ (2 ∷ 5 ∷ 11 ∷ []) ∷ (10 ∷ []) ∷ (9 ∷ []) ∷ (6 ∷ 12 ∷ []) ∷ (7 ∷ 14 ∷ []) ∷ [] in
    let named = c.requires in
    λ w. rw (blank_else keys tt _ ((c.in_default.in_default-own.rest, named.0), named.1))
