-- The tests of the definition in its order.
use Rattle.std.specs.Prelude.{ℕ, ◌≡◌, Result, Ok, Err}
use Rattle.std.specs.Result.{MatchResult, IsErrAnd}
use Rattle.std.proofs.Common.{rules}
use Rattle.std.proofs.lemmas.Result.{err_from_is_err_and}
use Rattle.cdf_unit_judge.specs.declared.BodyFault.{BodyFault}
use Rattle.cdf_unit_judge.specs.declared.BodyFault.TheVariants.{Data as BadData}
use Rattle.cdf_unit_judge.specs.Answers.{bodied}
use Rattle.cdf_unit_judge.specs.Judge.{data_body, body_by}
use Rattle.cdf_unit_judge.proofs.judge_body.Goals as goal

mapped : (r : Result ℕ ℕ) (m : Result ℕ BodyFault) → MatchResult r (λ k. m ≡ Ok k) (λ k. IsErrAnd m (λ f. f ≡ BadData k)) → bodied m ≡ data_body r
unfolding data_body
mapped (Ok k) m h = rw h
mapped (Err k) m h = let p = err_from_is_err_and m h in rw (p.1, p.2)

pub returns-then-not-action_allowed : goal.returns-then-not-action_allowed
unfolding body_by
returns-then-not-action_allowed g c = rw (← c.action_allowed.ensures, c.if-not-action_allowed.true-raw)

pub returns : goal.returns
unfolding body_by
returns g c =
    rw (← c.action_allowed.ensures, c.if-not-action_allowed.false-raw, ← c.own_data.ensures)
    (mapped c.own_data.result c.map_err.result (search (rules, c.map_err.ensures.cases)))
