-- What the call came to is due.
use Rattle.std.proofs.Common.{ap}
use Rattle.cdf_reader.specs.declared.Place.{Place}
use Rattle.cdf_reader_call_numbers.proofs.answer_to.Goals as goal

pub returns : goal.returns
returns c =
    let told = rw c.place_from-p.ensures at c.call.ensures in
    c.tell.ensures.due c.args.s.now (ap (λ (p : Place). p.last) c.place_from-p.ensures) told.is told.again
