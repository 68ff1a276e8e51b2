-- What rescue answers: its number, the entries (proofs/Pairs) and the buffer.
use Rattle.std.proofs.Common.{ap, ◌∙◌, rules}
use Rattle.cdf_rescue.specs.Numbers.{Told, report_of}
use Rattle.cdf_rescue_c.proofs.Pairs.{written_is, refused_is}
use Rattle.cdf_rescue_c.proofs.cdf_rescue.Goals as goal

pub returns-in-Ok-clause-number : goal.returns-in-Ok-clause-number
unfolding report_of
returns-in-Ok-clause-number c = ap (λ (t : Told). t.number) c.in-Ok.ensures.is

pub returns-in-Ok-clause-answer : goal.returns-in-Ok-clause-answer
returns-in-Ok-clause-answer c = c.write_answer.ensures ∙ written_is _ c.in-Ok.told c.in-Ok.ensures.is (search rules)

pub returns-in-Err-clause-number : goal.returns-in-Err-clause-number
unfolding report_of
returns-in-Err-clause-number c = c.number.ensures ∙ ap (λ (t : Told). t.number) c.in-Err.ensures.is

pub returns-in-Err-clause-answer : goal.returns-in-Err-clause-answer
returns-in-Err-clause-answer c = refused_is _ _ c.in-Err.ensures.is
