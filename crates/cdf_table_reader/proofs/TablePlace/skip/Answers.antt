-- SKIP is the first reader's.
use Rattle.std.proofs.Common.{sym, ◌∙◌}
use Rattle.cdf_table_reader_spec.proofs.Alike.{skip_alike}
use Rattle.cdf_table_reader.proofs.TablePlace.skip.Goals as goal

pub returns : goal.returns
returns c = c.skip.ensures ∙ sym (skip_alike _ _ _)
