-- The constant is the table's list: one computation over all its entries.
use Rattle.cdf_table_reader_spec.specs.Table.{entries}
use Rattle.cdf_table_reader.proofs.TablePlace.next.Goals as goal

pub returns : goal.returns
unfolding entries
returns c = c.next_in.ensures
