-- The constant is the table's list.
use Rattle.cdf_table_reader_spec.specs.Table.{entries}
use Rattle.cdf_table_reader.proofs.table_first.Goals as goal

pub returns : goal.returns
unfolding entries
returns c = c.first_in.ensures
