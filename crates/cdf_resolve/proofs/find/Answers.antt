-- What is found from here on is what is found.
use Rattle.std.proofs.Common.{sym, ◌∙◌, add-one, drop_of_length-le, drop-cons}
use Rattle.cdf_resolve.specs.Holding.{rank_in}
use Rattle.cdf_resolve.specs.declared.Template.{Template}
use Rattle.cdf_resolve.proofs.find.Goals as goal

abbrev blank : Template
blank = record { start = 0; own = 0; rank = 0 }

pub loop-t-preserved : goal.loop-t-preserved
unfolding rank_in
loop-t-preserved c =
    let i = c.loop-t.invariant in
    let head = drop-cons c.args.held.now c.loop-t.t-index blank c.loop-t-test.true in
    let lies = rw head at i.lies in
    record { lies = rw add-one lies.1; rest = rw add-one (rw (head, sym c.alike.ensures ∙ c.if-alike.false) at i.rest) }

pub returns-then-alike : goal.returns-then-alike
unfolding rank_in
returns-then-alike c =
    let head = drop-cons c.args.held.now c.loop-t.t-index blank c.loop-t-test.true in
    rw (head, sym c.alike.ensures ∙ c.if-alike.true) at c.loop-t.invariant.rest

pub returns : goal.returns
unfolding rank_in
returns c =
    rw (drop_of_length-le c.args.held.now (c.loop-t-test.false)) at c.loop-t.invariant.rest
