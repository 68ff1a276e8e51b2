-- As the first reader's start, which it is by the table's list.
use Rattle.std.proofs.Common.{sym, ◌∙◌}
use Rattle.cdf_reader_spec.proofs.Replying.{start_named}
use Rattle.cdf_reader.specs.View.{view}
use Rattle.cdf_reader_numbers.specs.Numbers.{place_from}
use Rattle.cdf_table_reader_spec.proofs.Alike.{first_alike}
use Rattle.cdf_table_reader_spec.proofs.Other.{start_other}
use Rattle.cdf_table_reader_c.proofs.cdf_table_first.Goals as goal

pub returns : goal.returns
returns c =
    let a = c.args in
    c.tell.ensures.due a.s.now c.last_of.ensures
    (c.table_first.ensures ∙ first_alike _ _ ∙ sym (start_named _ _ (view (place_from a.place.now)))) (λ e. start_other e)
