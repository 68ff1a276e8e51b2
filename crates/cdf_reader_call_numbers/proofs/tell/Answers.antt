-- The answer and the part are written, and then the place, or it stays (proofs/Telling).
use Rattle.std.proofs.Common.{sym, ap, ◌∙◌, rules}
use Rattle.cdf_refusal.proofs.Apart.{refuses}
use Rattle.cdf_unit_list.specs.declared.Unit.{Unit}
use Rattle.cdf_reader.proofs.Keeping.{cleared}
use Rattle.cdf_reader_numbers.specs.Numbers.{numbers_of}
use Rattle.cdf_reader_numbers.specs.Taking.{part_is, part_by}
use Rattle.cdf_reader_numbers.proofs.Calling.{leaves_old, leaves_new}
use Rattle.cdf_reader_call_numbers.proofs.Telling.{started, unstarted, handed, refused}
use Rattle.cdf_reader_call_numbers.proofs.tell.Goals.{then-is_start, else-is_start}
use Rattle.cdf_reader_call_numbers.proofs.tell.Goals as goal

pub returns-then-not-is_kept-clause-due : goal.returns-then-not-is_kept-clause-due
returns-then-not-is_kept-clause-due c = λ s last due again.
    let a = c.args in
    let by = c.of.ensures ∙ ap (λ (u : Unit). part_by a.call 0 u.start u.end) last in
    leaves_new (handed a.call s a.place.now a.told due again c.in-Ok.a c.in-Ok.is (part_is c.of.result) by _ c.write_answer.ensures)
    (sym c.is_kept.ensures ∙ c.if-not-is_kept.true) _ c.write_place.ensures

pub returns-else-not-is_kept-clause-due : goal.returns-else-not-is_kept-clause-due
returns-else-not-is_kept-clause-due c = λ s last due again.
    let a = c.args in
    let by = c.of.ensures ∙ ap (λ (u : Unit). part_by a.call 0 u.start u.end) last in
    leaves_old (handed a.call s a.place.now a.told due again c.in-Ok.a c.in-Ok.is (part_is c.of.result) by _ c.write_answer.ensures)
    (sym c.is_kept.ensures ∙ c.if-not-is_kept.false)

pub returns-after-is_start-clause-due : goal.returns-after-is_start-clause-due
returns-after-is_start-clause-due c = λ s last due again.
    let a = c.args in
    let f = c.in-Err.fault in
    let told = refused a.call s a.place.now a.told due again f c.in-Err.is c.write_answer-in-Err.new.a (search rules) in
    rw c.number.ensures (elim c.if-is_start.branch [
      | then-is_start w ↦
          let start = sym c.is_start.ensures ∙ w.if-is_start.true in
          leaves_new told (started a.call _ start) _ (w.place-is ∙ sym (ap numbers_of (cleared a.call start _)))
      | else-is_start w ↦ rw w.place-is (leaves_old told (unstarted a.call _ (sym c.is_start.ensures ∙ w.if-is_start.false) (refuses f.refusal)))
    ])
