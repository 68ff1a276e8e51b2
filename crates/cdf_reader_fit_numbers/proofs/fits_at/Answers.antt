-- Each return by its law (proofs/Fitted).
use Rattle.std.proofs.Common.{sym, ◌∙◌}
use Rattle.cdf_reader_numbers.specs.Numbers.{place_from}
use Rattle.cdf_reader_fit_numbers.proofs.Fitted.{not_past, not_in, not_last, not_ranked, by_held}
use Rattle.cdf_reader_fit_numbers.proofs.fits_at.Goals as goal

pub returns-then-not-is_past : goal.returns-then-not-is_past
returns-then-not-is_past c =
    let past = c.is_past in
    let a = c.args in
    not_past a.edition a.n (place_from a.p.now) (sym past.ensures ∙ c.if-not-is_past.true)

pub returns-then-p-position : goal.returns-then-p-position
returns-then-p-position c =
    let a = c.args in
    not_in a.edition a.n (place_from a.p.now) c.if-p-position.true

pub returns-then-not-is_last : goal.returns-then-not-is_last
returns-then-not-is_last c =
    let last = c.is_last in
    let a = c.args in
    not_last a.edition a.n (place_from a.p.now) (sym last.ensures ∙ c.if-not-is_last.true)

pub returns-then-most-p : goal.returns-then-most-p
returns-then-most-p c =
    let a = c.args in
    not_ranked a.edition a.n (place_from a.p.now) _ c.most_rank-most.ensures c.if-most-p.true

pub returns : goal.returns
returns c =
    let a = c.args in
    c.holds.ensures
    ∙ by_held a.edition a.n (place_from a.p.now) _ c.most_rank-most.ensures
    (sym c.is_past.ensures ∙ c.if-not-is_past.false)
    c.if-p-position.false
    (sym c.is_last.ensures ∙ c.if-not-is_last.false)
    c.if-most-p.false
