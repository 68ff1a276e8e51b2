-- One request more, one that is refused, and past the last.
use Rattle.std.proofs.Common.{ℕ, ◌≡◌, refl, sym, ap, ◌∙◌, rules}
use Rattle.std.specs.Prelude.{Result, Ok, Err}
use Rattle.std.specs.Result.{MatchResult, IsErrAnd}
use Rattle.std.proofs.lemmas.Result.{err_from_is_err_and}
use Rattle.cdf_refusal.specs.declared.Refusal.{Refusal}
use Rattle.cdf_unit_prefix.specs.Layout.{layout_of}
use Rattle.cdf_unit_prefix.specs.declared.Edition.TheVariants.{First}
use Rattle.cdf_batch_turn.specs.declared.PlaceNumbers.{PlaceNumbers}
use Rattle.cdf_batch_turn.specs.declared.Refused.{Refused}
use Rattle.cdf_batch_turn.specs.Numbers.{viewed}
use Rattle.cdf_batch_turn.specs.Passes.{writes, going, from_place}
use Rattle.cdf_batch.proofs.Passing.{over, one_more, stops}
use Rattle.cdf_batch.proofs.run_all.Goals as goal

-- A turn's answer, by what is told of it with the rank.
abbrev Ranked : ℕ → Result PlaceNumbers Refusal → Result PlaceNumbers Refused → Type 0
Ranked rank r m = MatchResult r (λ q. m ≡ Ok q) (λ e. IsErrAnd m (λ f. f ≡ record { refusal = e; rank = rank }))

taken : (rank : ℕ) (r : Result PlaceNumbers Refusal) (m : Result PlaceNumbers Refused) → Ranked rank r m → (q : PlaceNumbers) → m ≡ Ok q → r ≡ Ok q
taken rank (Ok p) m h q e = let same : q ≡ p = cc in rw same
taken rank (Err e) m h q is = let p = err_from_is_err_and m h in cc

refused : (rank : ℕ) (r : Result PlaceNumbers Refusal) (m : Result PlaceNumbers Refused) → Ranked rank r m → (f : Refused) → m ≡ Err f →
    (e : Refusal) × (r ≡ Err e) × (f ≡ record { refusal = e; rank = rank })
refused rank (Ok p) m h f is = absurd cc
refused rank (Err e) m h f is = let p = err_from_is_err_and m h in let same : f ≡ p.0 = cc in (e, refl, same ∙ p.2)

pub loop-rank-preserved : goal.loop-rank-preserved
loop-rank-preserved c =
    let w = writes c.args.pass in
    let x = c.loop-rank in
    let is = taken x.rank-counter c.take.result c.map_err.result (search (rules, c.map_err.ensures.cases)) _ c.in_ok-place.was in
    one_more (layout_of First) c.args.text.now (going w (viewed x.place) x.buffer) c.args.list.now x.rank-counter c.loop-rank-test.true _
    (going w (viewed c.in_ok-place.place) c.take.new.buffer) (rw is at (c.take.ensures x.rank-counter))
    ∙ x.invariant

pub returns-in_err-place : goal.returns-in_err-place
returns-in_err-place c =
    let w = writes c.args.pass in
    let x = c.loop-rank in
    let is = refused x.rank-counter c.take.result c.map_err.result (search (rules, c.map_err.ensures.cases)) _ c.in_err-place.was in
    let p = err_from_is_err_and c.from_residual.result c.from_residual.ensures.1 in
    rw (p.1, p.2, is.2)
    (stops (layout_of First) c.args.text.now (going w (viewed x.place) x.buffer) c.args.list.now x.rank-counter c.loop-rank-test.true _ w (viewed x.place)
    is.0 c.take.new.buffer (rw is.1 at (c.take.ensures x.rank-counter)) (viewed c.args.start)
    ∙ ap (from_place (viewed c.args.start)) x.invariant)

pub returns : goal.returns
returns c =
    let x = c.loop-rank in
    ap (from_place (viewed c.args.start))
    (sym (over (layout_of First) c.args.text.now (going (writes c.args.pass) (viewed x.place) x.buffer) c.args.list.now x.rank-counter
    c.loop-rank-test.false)
    ∙ x.invariant)
