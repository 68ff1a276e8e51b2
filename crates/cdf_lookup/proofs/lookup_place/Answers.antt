-- By the stages of the definition: both checks, the roots, and then the values.
use Rattle.std.proofs.Common.{arith}
use Rattle.std.proofs.lemmas.Result.{err_from_is_err_and}
use Rattle.cdf_check.proofs.Exact.{bytes_of}
use Rattle.cdf_lookup_spec.specs.Told.{query_of}
use Rattle.cdf_lookup.proofs.Deciding.{by_first, by_second, by_roots, of_first, of_second, of_neither}
use Rattle.cdf_lookup.proofs.lookup_place.Goals as goal

-- Of a stream that is refused the check is told,
-- the first's before the second's, and each before a root is asked.
pub returns-in_err-one-clause-is : goal.returns-in_err-one-clause-is
returns-in_err-one-clause-is c =
    let a = c.args in
    let q = query_of a.asked in
    let p = err_from_is_err_and c.from_residual.result c.from_residual.ensures.1 in
    rw (p.1, p.2) (by_first a.first.now a.second.now q c.in_err-one.field-0.0 c.in_err-one.ensures.is)

pub returns-in_err-two-clause-is : goal.returns-in_err-two-clause-is
returns-in_err-two-clause-is c =
    let a = c.args in
    let q = query_of a.asked in
    let p = err_from_is_err_and c.from_residual-in_err-two.result c.from_residual-in_err-two.ensures.1 in
    rw (p.1, p.2)
    (by_second a.first.now a.second.now q c.in_ok-one.one c.in_ok-one.ensures.is c.in_err-two.field-0.0 c.in_err-two.ensures.is)

pub returns-then-not-grouped-clause-is : goal.returns-then-not-grouped-clause-is
returns-then-not-grouped-clause-is c =
    let a = c.args in
    let q = query_of a.asked in
    rw c.into.ensures
    (by_roots a.first.now a.second.now q c.in_ok-one.one c.in_ok-one.ensures.is c.in_ok-two.two c.in_ok-two.ensures.is c.if-not-grouped.true)

pub found_in-requires : goal.found_in-requires
found_in-requires c = (c.in_ok-one.ensures.placed _ _ c.in-Some-default.is-0).0

pub found_in-requires-in-None-Some : goal.found_in-requires-in-None-Some
found_in-requires-in-None-Some c = (c.in_ok-two.ensures.placed _ _ c.in-None-Some.is-1).0

pub returns-in-Some-default-clause-is : goal.returns-in-Some-default-clause-is
returns-in-Some-default-clause-is c =
    let a = c.args in
    let q = query_of a.asked in
    rw c.found_in.ensures
    (of_first a.first.now a.second.now q c.in_ok-one.one c.in_ok-one.ensures.is c.in_ok-two.two c.in_ok-two.ensures.is
    (bytes_of a.first.now (λ i. (c.type_inv.first i).fits)) (bytes_of a.second.now (λ i. (c.type_inv.second i).fits)) c.if-not-grouped.false
    c.in-Some-default.value c.in-Some-default.is-0)

pub returns-in-Some-default-clause-within : goal.returns-in-Some-default-clause-within
returns-in-Some-default-clause-within c =
    let lies = c.in_ok-one.ensures.placed _ _ c.in-Some-default.is-0 in
    rw c.found_in.ensures (omega (arith, lies.0, lies.1))

pub returns-in-None-Some-clause-is : goal.returns-in-None-Some-clause-is
returns-in-None-Some-clause-is c =
    let a = c.args in
    let q = query_of a.asked in
    rw c.found_in-in-None-Some.ensures
    (of_second a.first.now a.second.now q c.in_ok-one.one c.in_ok-one.ensures.is c.in_ok-two.two c.in_ok-two.ensures.is
    (bytes_of a.first.now (λ i. (c.type_inv.first i).fits)) (bytes_of a.second.now (λ i. (c.type_inv.second i).fits)) c.if-not-grouped.false
    c.in-None-Some.value c.in-None-Some.is-0 c.in-None-Some.is-1)

pub returns-in-None-Some-clause-within : goal.returns-in-None-Some-clause-within
returns-in-None-Some-clause-within c =
    let lies = c.in_ok-two.ensures.placed _ _ c.in-None-Some.is-1 in
    rw c.found_in-in-None-Some.ensures (omega (arith, lies.0, lies.1))

pub returns-in-None-None-clause-is : goal.returns-in-None-None-clause-is
returns-in-None-None-clause-is c =
    let a = c.args in
    let q = query_of a.asked in
    rw c.into-in-None-None.ensures
    (of_neither a.first.now a.second.now q c.in_ok-one.one c.in_ok-one.ensures.is c.in_ok-two.two c.in_ok-two.ensures.is
    (bytes_of a.first.now (λ i. (c.type_inv.first i).fits)) (bytes_of a.second.now (λ i. (c.type_inv.second i).fits)) c.if-not-grouped.false
    c.in-None-None.is-0 c.in-None-None.is-1)
