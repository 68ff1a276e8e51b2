-- As the first reader's call, which it is by the table's list.
use Rattle.std.proofs.Common.{sym, ap, ◌∙◌}
use Rattle.cdf_reader_spec.proofs.Replying.{next_named}
use Rattle.cdf_reader.specs.declared.Place.{Place}
use Rattle.cdf_table_reader_spec.proofs.Alike.{next_alike}
use Rattle.cdf_table_reader_spec.proofs.Other.{next_other}
use Rattle.cdf_table_reader_c.proofs.cdf_table_next.Goals as goal

pub returns : goal.returns
returns c =
    c.tell.ensures.due c.args.s.now (ap (λ (p : Place). p.last) c.place_from.ensures)
    (rw c.place_from.ensures at (c.next.ensures ∙ next_alike _ _ _ ∙ sym (next_named _ _ _))) (λ e. next_other e)
